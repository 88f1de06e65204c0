-- Filters, parts and edits may cross threads.
use denote.Param.Send.{IsSend, IsSync, sendable}
use Rattle.std.proofs.Crossing.{crosses}
use Rattle.df_filter.specs.contracts.clause.Clause as Clause
use Rattle.df_filter.specs.contracts.clause.Test as Test
use Rattle.df_filter.specs.contracts.field_test.FieldTest as FieldTest
use Rattle.df_filter.specs.contracts.filter.Filter as Filter
use Rattle.df_part.specs.contracts.contents.Contents as Contents
use Rattle.df_part.specs.contracts.edit.Edit as Edit
use Rattle.df_part.specs.contracts.edit.Spot as Spot
use Rattle.df_part.specs.contracts.part.Part as Part
use Rattle.df_part.specs.contracts.part_ref.PartRef as PartRef
use Rattle.df_part.specs.contracts.parts.Parts as Parts
use Rattle.df_sendable.proofs.Labels.{labels}
use Rattle.df_sendable.proofs.Values.{values}

pub field_test_field_send : IsSend (FieldTest.the_field).row
field_test_field_send = search (values, sendable, crosses) depth 40 fits 20000

pub test_field_send : IsSend (Test.the_field).row
test_field_send = search (field_test_field_send, values, sendable, crosses) depth 40 fits 20000

pub clause_field_send : IsSend (Clause.the_field).row
clause_field_send = search (test_field_send, values, sendable, crosses) depth 40 fits 20000

pub clause_send : IsSend Clause.the_row
clause_send = search (clause_field_send, sendable) depth 40

pub filter_send : IsSend Filter.the_row
filter_send = search (clause_send, sendable, crosses) depth 40 fits 20000

pub part_field_send : IsSend (Part.the_field).row
part_field_send = search (labels, values, sendable, crosses) depth 40 fits 20000

pub part_send : IsSend Part.the_row
part_send = search (part_field_send, sendable) depth 40

pub part_field_sync : IsSync (Part.the_field).row
part_field_sync = search (labels, values, sendable, crosses) depth 40 fits 20000

pub part_sync : IsSync Part.the_row
part_sync = search (part_field_sync, sendable) depth 40

pub part_ref_send : IsSend PartRef.the_row
part_ref_send = search (part_send, part_sync, sendable, crosses) depth 40 fits 20000

pub part_ref_sync : IsSync PartRef.the_row
part_ref_sync = search (part_send, part_sync, sendable, crosses) depth 40 fits 20000

pub parts_send : IsSend Parts.the_row
parts_send = search (part_ref_send, part_ref_sync, sendable, crosses) depth 40 fits 20000

pub contents_send : IsSend Contents.the_row
contents_send = search (parts_send, sendable, crosses) depth 40 fits 20000

pub spot_field_send : IsSend (Spot.the_field).row
spot_field_send = search (labels, values, sendable, crosses) depth 40 fits 20000

pub spot_send : IsSend Spot.the_row
spot_send = search (spot_field_send, sendable) depth 40

pub edit_send : IsSend Edit.the_row
edit_send = search (spot_send, parts_send, sendable, crosses) depth 40 fits 20000

pub ruleset contents = (
  field_test_field_send,
  test_field_send,
  clause_field_send,
  clause_send,
  filter_send,
  part_field_send,
  part_send,
  part_field_sync,
  part_sync,
  part_ref_send,
  part_ref_sync,
  parts_send,
  contents_send,
  spot_field_send,
  spot_send,
  edit_send,
)
