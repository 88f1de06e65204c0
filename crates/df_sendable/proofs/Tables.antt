-- The tables of a machine may cross threads.
use denote.Param.Send.{IsSend, sendable}
use Rattle.std.proofs.Crossing.{crosses}
use Rattle.std.proofs.MapsCrossing.{crosses as maps}
use Rattle.df_instances.specs.contracts.managed.Managed as Managed
use Rattle.df_instances.specs.contracts.marks.Marks as Marks
use Rattle.df_instances.specs.contracts.subscription.ManagedSubscription as ManagedSubscription
use Rattle.df_roll.specs.contracts.chunk.Chunk as Chunk
use Rattle.df_roll.specs.contracts.roll.Roll as Roll
use Rattle.df_roll.specs.contracts.seat.Seat as Seat
use Rattle.df_tables.specs.contracts.board.Board as Board
use Rattle.df_tables.specs.contracts.event_places.EventPlaces as EventPlaces
use Rattle.df_tables.specs.contracts.events.EventRow as EventRow
use Rattle.df_tables.specs.contracts.events.Events as Events
use Rattle.df_tables.specs.contracts.line.Line as Line
use Rattle.df_tables.specs.contracts.units.Unit as Unit
use Rattle.df_sendable.proofs.Indexes.{index_send}
use Rattle.df_sendable.proofs.Labels.{labels}
use Rattle.df_sendable.proofs.Locals.{locals}
use Rattle.df_sendable.proofs.Parts.{contents}
use Rattle.df_sendable.proofs.Units.{units}
use Rattle.df_sendable.proofs.Values.{values}

pub seat_field_send : IsSend (Seat.the_field).row
seat_field_send = search (units, sendable, crosses) depth 40 fits 20000

pub seat_send : IsSend Seat.the_row
seat_send = search (seat_field_send, sendable) depth 40

pub chunk_send : IsSend Chunk.the_row
chunk_send = search (seat_send, sendable, crosses) depth 40 fits 20000

pub roll_send : IsSend Roll.the_row
roll_send = search (chunk_send, sendable, crosses) depth 40 fits 20000

pub event_row_field_send : IsSend (EventRow.the_field).row
event_row_field_send = search (units, contents, sendable, crosses) depth 40 fits 20000

pub event_row_send : IsSend EventRow.the_row
event_row_send = search (event_row_field_send, sendable) depth 40

pub event_places_field_send : IsSend (EventPlaces.the_field).row
event_places_field_send = search (units, maps, sendable, crosses) depth 40 fits 20000

pub events_send : IsSend Events.the_row
events_send = search (event_row_send, event_places_field_send, units, maps, sendable, crosses) depth 40 fits 20000

pub line_send : IsSend Line.the_row
line_send = search (units, sendable, crosses) depth 40 fits 20000

pub unit_field_send : IsSend (Unit.the_field).row
unit_field_send = search (locals, line_send, sendable, crosses) depth 40 fits 20000

pub unit_send : IsSend Unit.the_row
unit_send = search (unit_field_send, sendable) depth 40

pub subscription_field_send : IsSend (ManagedSubscription.the_field).row
subscription_field_send = search (locals, units, sendable, crosses) depth 40 fits 20000

pub subscription_send : IsSend ManagedSubscription.the_row
subscription_send = search (subscription_field_send, sendable) depth 40

pub managed_send : IsSend Managed.the_row
managed_send = search (subscription_send, values, maps, sendable, crosses) depth 40 fits 20000

pub marks_send : IsSend Marks.the_row
marks_send = search (sendable, crosses) depth 40 fits 20000

pub board_field_send : IsSend (Board.the_field).row
board_field_send = search (unit_send, roll_send, events_send, managed_send, marks_send, index_send, labels, contents, sendable, crosses) depth 40 fits 20000

pub board_send : IsSend Board.the_row
board_send = search (board_field_send, sendable) depth 40

pub ruleset tables = (
  seat_field_send,
  seat_send,
  chunk_send,
  roll_send,
  event_row_field_send,
  event_row_send,
  events_send,
  line_send,
  unit_field_send,
  unit_send,
  subscription_field_send,
  subscription_send,
  managed_send,
  marks_send,
  board_field_send,
  board_send,
)
