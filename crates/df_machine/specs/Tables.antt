-- When the tables of a machine agree with its state.
use Rattle.std.specs.Prelude.{◌≡◌, ℕ, false, Option, None, Some, map}
use Rattle.df_start.specs.Begun.{begun}
use Rattle.df_tables.specs.Board.{IsBoard, TellsOf, answer_from, place_on, row_by}
use Rattle.df_unit.specs.declared.call.Call.{Call}
use Rattle.df_unit.specs.declared.entry.Effect.{Effect}
use Rattle.df_unit.specs.declared.name.UnitName.{UnitName}
use Rattle.df_unit.specs.declared.reply.Reply.{Reply}
use Rattle.df_unit.specs.Rows.{is_accepted}
use Rattle.df_machine.specs.Journal.{State, answer_in, appended}
use Rattle.df_machine.specs.declared.tables.Tables.{Tables}

-- the tables are those of a machine with this start and this journal
pub record AgreesWith (core : State) (tables : Tables) : Type 0 where
  pub board : IsBoard tables.board
  pub tells : TellsOf (map begun core.0) core.1 tables.board

-- the place of a unit's row, where it has one
abbrev pub place_in : Tables → UnitName → Option ℕ
place_in tables actor = place_on tables.board actor

-- a unit's call is answered so, and the tables agree with it and its entry
pub record IsStep (core : State) (actor : UnitName) (call : Call) (told : Reply × Effect)
    (tables : Tables) : Type 0 where
  pub answer : answer_in core actor call ≡ told
  pub entry : AgreesWith (appended actor call core) tables

-- the answer to a call of the unit at a place
abbrev pub answer_at : Tables → Option ℕ → Call → Reply × Effect
answer_at tables place call = answer_from (row_by tables.board place) call

-- whatever the tables agreed with, a call of the unit at a place that is answered so is a step
abbrev pub Steps : Option ℕ → Call → Reply × Effect → Tables → Tables → Type 0
Steps place call told old new = (core : State) (actor : UnitName) → AgreesWith core old →
    place ≡ place_in old actor → IsStep core actor call told new

-- the tables agree with what they agreed with, and rows stand where they stood
pub record Stays (old new : Tables) : Type 0 where
  pub agrees : (core : State) → AgreesWith core old → AgreesWith core new
  pub places : (actor : UnitName) → place_in new actor ≡ place_in old actor

-- a call that its unit makes of its own state alone is a step; at any other the tables stay
abbrev pub StepsAlone : Option ℕ → Call → Option Reply → Tables → Tables → Type 0
StepsAlone place call (Some reply) old new = Steps place call (reply, Effect.Nothing) old new
StepsAlone place call None old new = Stays old new

-- a publish or a release that is answered with Ok is a step with this effect; at one that is refused
-- the tables stay
abbrev pub StepsClosing : Option ℕ → Call → Option Effect → Tables → Tables → Type 0
StepsClosing place call (Some effect) old new = Steps place call (Reply.Ok, effect) old new
StepsClosing place call None old new =
    (is_accepted (answer_at old place call).0 ≡ false) × Stays old new
