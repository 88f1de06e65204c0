-- Calls that are made, and their entries' lines.
use Rattle.std.specs.Prelude.{◌≡◌, ℕ, List, ◌++◌, Option}
use Rattle.df_label.specs.declared.label.Label.{Label}
use Rattle.df_journal_text.specs.Entry.{entry_text}
use Rattle.df_journal_text.specs.Front.{call_front}
use Rattle.df_machine.specs.Journal.{State, answer_in, appended, contamination_in, firsts}
use Rattle.df_machine.specs.Tables.{AgreesWith, place_in}
use Rattle.df_machine.specs.declared.tables.Tables.{Tables}
use Rattle.df_rules.specs.Legal.{answered}
use Rattle.df_rules.specs.Start.{rows}
use Rattle.df_unit.specs.declared.call.Call.{Call}
use Rattle.df_unit.specs.declared.entry.Effect.{Effect}
use Rattle.df_unit.specs.declared.name.UnitName.{UnitName}
use Rattle.df_unit.specs.declared.reply.Reply.{Reply}

-- the tables, which agreed with this state, made the unit's call, its answer was heard, and the
-- lines of its entry with this note were appended
pub record MakesCall (core : State) (actor : UnitName) (call : Call) (note : Option Label)
    (Heard : Reply × Effect → Type 0) (tables : Tables) (before now : List ℕ) : Type 0 where
  pub made : AgreesWith (appended actor call core) tables
  pub heard : Heard (answer_in core actor call)
  pub text : now ≡ before ++ entry_text note (answered rows (firsts core.0) core.1 actor call)

-- whichever unit's row is at the place, and whatever the tables agreed with, the call that has
-- these words was made, and the lines of its entry with this note were appended
abbrev pub Enters : Option ℕ → List ℕ → Call → Option Label → (Reply × Effect → Type 0) →
    Tables → Tables → List ℕ → List ℕ → Type 0
Enters place words call note Heard old new before now = (core : State) (actor : UnitName) →
    AgreesWith core old → place ≡ place_in old actor → words ≡ call_front actor call →
    MakesCall core actor call note Heard new before now

-- the same, with the contamination of that unit before its call
abbrev pub EntersNoted : Option ℕ → List ℕ → Call → (Reply × Effect → Type 0) → Tables →
    Tables → List ℕ → List ℕ → Type 0
EntersNoted place words call Heard old new before now = (core : State) (actor : UnitName) →
    AgreesWith core old → place ≡ place_in old actor → words ≡ call_front actor call →
    MakesCall core actor call (contamination_in core actor) Heard new before now
