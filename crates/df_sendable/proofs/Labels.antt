-- Labels and privileges may cross threads.
use denote.Param.Send.{IsSend, IsSync, sendable}
use Rattle.std.proofs.Crossing.{crosses}
use Rattle.df_label.specs.contracts.label.Label as Label
use Rattle.df_label.specs.contracts.privilege.Privilege as Privilege
use Rattle.df_label.specs.contracts.privileges.Privileges as Privileges
use Rattle.df_label.specs.contracts.spelled_tags.SpelledTags as SpelledTags
use Rattle.df_label.specs.contracts.tag.Tag as Tag
use Rattle.df_label.specs.contracts.tag_set.TagSet as TagSet

pub tag_send : IsSend Tag.the_row
tag_send = search (sendable, crosses) depth 40 fits 20000

pub tag_sync : IsSync Tag.the_row
tag_sync = search (sendable, crosses) depth 40 fits 20000

pub spelled_tags_send : IsSend SpelledTags.the_row
spelled_tags_send = search (tag_send, sendable, crosses) depth 40 fits 20000

pub spelled_tags_sync : IsSync SpelledTags.the_row
spelled_tags_sync = search (tag_sync, sendable, crosses) depth 40 fits 20000

pub tag_set_send : IsSend TagSet.the_row
tag_set_send = search (spelled_tags_send, spelled_tags_sync, sendable, crosses) depth 40 fits 20000

pub tag_set_sync : IsSync TagSet.the_row
tag_set_sync = search (spelled_tags_send, spelled_tags_sync, sendable, crosses) depth 40 fits 20000

pub label_field_send : IsSend (Label.the_field).row
label_field_send = search (tag_set_send, sendable, crosses) depth 40 fits 20000

pub label_send : IsSend Label.the_row
label_send = search (label_field_send, sendable) depth 40

pub label_field_sync : IsSync (Label.the_field).row
label_field_sync = search (tag_set_sync, sendable, crosses) depth 40 fits 20000

pub label_sync : IsSync Label.the_row
label_sync = search (label_field_sync, sendable) depth 40

pub privilege_field_send : IsSend (Privilege.the_field).row
privilege_field_send = search (tag_send, sendable, crosses) depth 40 fits 20000

pub privilege_send : IsSend Privilege.the_row
privilege_send = search (privilege_field_send, sendable) depth 40

pub privilege_field_sync : IsSync (Privilege.the_field).row
privilege_field_sync = search (tag_sync, sendable, crosses) depth 40 fits 20000

pub privilege_sync : IsSync Privilege.the_row
privilege_sync = search (privilege_field_sync, sendable) depth 40

pub privileges_send : IsSend Privileges.the_row
privileges_send = search (privilege_send, privilege_sync, sendable, crosses) depth 40 fits 20000

pub privileges_sync : IsSync Privileges.the_row
privileges_sync = search (privilege_send, privilege_sync, sendable, crosses) depth 40 fits 20000

pub ruleset labels = (
  tag_send,
  tag_sync,
  spelled_tags_send,
  spelled_tags_sync,
  tag_set_send,
  tag_set_sync,
  label_field_send,
  label_send,
  label_field_sync,
  label_sync,
  privilege_field_send,
  privilege_send,
  privilege_field_sync,
  privilege_sync,
  privileges_send,
  privileges_sync,
)
