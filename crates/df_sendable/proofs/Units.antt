-- What units ask for and are told may cross threads.
use denote.Param.Send.{IsSend, IsSync, sendable}
use Rattle.std.proofs.Crossing.{crosses}
use Rattle.df_unit.specs.contracts.call.Call as Call
use Rattle.df_unit.specs.contracts.commit.Commit as Commit
use Rattle.df_unit.specs.contracts.commit.Given as Given
use Rattle.df_unit.specs.contracts.entry.Effect as Effect
use Rattle.df_unit.specs.contracts.entry.Entry as Entry
use Rattle.df_unit.specs.contracts.handle.Drafts as Drafts
use Rattle.df_unit.specs.contracts.handle.Handle as Handle
use Rattle.df_unit.specs.contracts.handle.Spots as Spots
use Rattle.df_unit.specs.contracts.name.EventName as EventName
use Rattle.df_unit.specs.contracts.name.UnitName as UnitName
use Rattle.df_unit.specs.contracts.parts.PartRead as PartRead
use Rattle.df_unit.specs.contracts.parts.PartsRead as PartsRead
use Rattle.df_unit.specs.contracts.path.Path as Path
use Rattle.df_unit.specs.contracts.reply.Reply as Reply
use Rattle.df_sendable.proofs.Labels.{labels}
use Rattle.df_sendable.proofs.Parts.{contents}
use Rattle.df_sendable.proofs.Values.{values}

pub path_send : IsSend Path.the_row
path_send = search (sendable, crosses) depth 40 fits 20000

pub path_sync : IsSync Path.the_row
path_sync = search (sendable, crosses) depth 40 fits 20000

pub unit_name_field_send : IsSend (UnitName.the_field).row
unit_name_field_send = search (path_send, labels, sendable, crosses) depth 40 fits 20000

pub unit_name_send : IsSend UnitName.the_row
unit_name_send = search (unit_name_field_send, sendable) depth 40

pub unit_name_field_sync : IsSync (UnitName.the_field).row
unit_name_field_sync = search (path_sync, labels, sendable, crosses) depth 40 fits 20000

pub unit_name_sync : IsSync UnitName.the_row
unit_name_sync = search (unit_name_field_sync, sendable) depth 40

pub event_name_field_send : IsSend (EventName.the_field).row
event_name_field_send = search (unit_name_field_send, sendable, crosses) depth 40 fits 20000

pub commit_field_send : IsSend (Commit.the_field).row
commit_field_send = search (event_name_field_send, contents, sendable, crosses) depth 40 fits 20000

pub given_field_send : IsSend (Given.the_field).row
given_field_send = search (event_name_field_send, contents, sendable, crosses) depth 40 fits 20000

pub given_send : IsSend Given.the_row
given_send = search (given_field_send, sendable) depth 40

pub effect_field_send : IsSend (Effect.the_field).row
effect_field_send = search (commit_field_send, given_field_send, sendable, crosses) depth 40 fits 20000

pub call_field_send : IsSend (Call.the_field).row
call_field_send = search (labels, values, contents, sendable, crosses) depth 40 fits 20000

pub part_read_field_send : IsSend (PartRead.the_field).row
part_read_field_send = search (labels, values, sendable, crosses) depth 40 fits 20000

pub part_read_send : IsSend PartRead.the_row
part_read_send = search (part_read_field_send, sendable) depth 40

pub parts_read_send : IsSend PartsRead.the_row
parts_read_send = search (part_read_send, sendable, crosses) depth 40 fits 20000

pub reply_field_send : IsSend (Reply.the_field).row
reply_field_send = search (parts_read_send, labels, sendable, crosses) depth 40 fits 20000

pub entry_field_send : IsSend (Entry.the_field).row
entry_field_send = search (unit_name_field_send, call_field_send, reply_field_send, effect_field_send, commit_field_send, sendable, crosses) depth 40 fits 20000

pub entry_send : IsSend Entry.the_row
entry_send = search (entry_field_send, sendable) depth 40

pub spots_send : IsSend Spots.the_row
spots_send = search (contents, sendable, crosses) depth 40 fits 20000

pub drafts_send : IsSend Drafts.the_row
drafts_send = search (contents, sendable, crosses) depth 40 fits 20000

pub handle_field_send : IsSend (Handle.the_field).row
handle_field_send = search (event_name_field_send, spots_send, drafts_send, contents, sendable, crosses) depth 40 fits 20000

pub handle_send : IsSend Handle.the_row
handle_send = search (handle_field_send, sendable) depth 40

pub ruleset units = (
  path_send,
  path_sync,
  unit_name_field_send,
  unit_name_send,
  unit_name_field_sync,
  unit_name_sync,
  event_name_field_send,
  commit_field_send,
  given_field_send,
  given_send,
  effect_field_send,
  call_field_send,
  part_read_field_send,
  part_read_send,
  parts_read_send,
  reply_field_send,
  entry_field_send,
  entry_send,
  spots_send,
  drafts_send,
  handle_field_send,
  handle_send,
)
