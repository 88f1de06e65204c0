-- The lines of a step's entry, with its note.
use Rattle.std.proofs.Common.{List, ℕ}
use Rattle.df_audit.specs.Made.{MakesCall}
use Rattle.df_machine.specs.Journal.{State, contamination_in}
use Rattle.df_machine.specs.declared.tables.Tables.{Tables}
use Rattle.df_unit.specs.declared.call.Call.{Call}
use Rattle.df_unit.specs.declared.entry.Effect.{Effect}
use Rattle.df_unit.specs.declared.name.UnitName.{UnitName}
use Rattle.df_unit.specs.declared.reply.Reply.{Reply}
use Rattle.df_steps.specs.Steps.{AppendsStep}

-- a call that was made, with the unit's contamination before it, is a step
pub appends_step : {core : State} {actor : UnitName} {call : Call} {Heard : Reply × Effect → Type 0} {tables : Tables} {before now : List ℕ}
    → MakesCall core actor call (contamination_in core actor) Heard tables before now
    → AppendsStep (record { actor = actor; call = call }) core tables before now
appends_step makes = record { made = makes.made; text = makes.text }
