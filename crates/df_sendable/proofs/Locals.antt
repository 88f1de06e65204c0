-- A unit's own state may cross threads.
use denote.Param.Send.{IsSend, sendable}
use Rattle.std.proofs.Crossing.{crosses}
use Rattle.df_handles.specs.contracts.handles.Handles as Handles
use Rattle.df_local.specs.contracts.fixed.Fixed as Fixed
use Rattle.df_local.specs.contracts.local.Local as Local
use Rattle.df_local.specs.contracts.standing.Reading as Reading
use Rattle.df_local.specs.contracts.standing.Writing as Writing
use Rattle.df_priv.specs.contracts.held.Held as Held
use Rattle.df_sendable.proofs.Labels.{labels}
use Rattle.df_sendable.proofs.Parts.{contents}
use Rattle.df_sendable.proofs.Units.{units}

pub held_send : IsSend Held.the_row
held_send = search (labels, sendable, crosses) depth 40 fits 20000

pub handles_send : IsSend Handles.the_row
handles_send = search (units, sendable, crosses) depth 40 fits 20000

pub reading_field_send : IsSend (Reading.the_field).row
reading_field_send = search (labels, sendable, crosses) depth 40 fits 20000

pub writing_field_send : IsSend (Writing.the_field).row
writing_field_send = search (labels, sendable, crosses) depth 40 fits 20000

pub local_send : IsSend Local.the_row
local_send = search (units, held_send, handles_send, reading_field_send, writing_field_send, sendable, crosses) depth 40 fits 20000

pub fixed_field_send : IsSend (Fixed.the_field).row
fixed_field_send = search (held_send, labels, contents, sendable, crosses) depth 40 fits 20000

pub ruleset locals = (
  held_send,
  handles_send,
  reading_field_send,
  writing_field_send,
  local_send,
  fixed_field_send,
)
