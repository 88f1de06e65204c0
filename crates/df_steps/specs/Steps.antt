-- What a script makes of a journal.
use Rattle.std.specs.Prelude.{◌≡◌, ℕ, List, ◌++◌, map, reverse}
use Rattle.df_audit.specs.Audit.{noted_journal}
use Rattle.df_audit.specs.Sound.{IsSound}
use Rattle.df_journal_text.specs.Entry.{noted_text}
use Rattle.df_machine.specs.Journal.{State, appended, firsts}
use Rattle.df_machine.specs.Tables.{AgreesWith}
use Rattle.df_machine.specs.declared.tables.Tables.{Tables}
use Rattle.df_replay.specs.Noted.{noted_in}
use Rattle.df_rules.specs.Legal.{IsUnaided, answered, run}
use Rattle.df_rules.specs.Start.{rows}
use Rattle.df_script_text.specs.Script.{IsScript, script_text}
use Rattle.df_script_text.specs.declared.line.ScriptLine.{ScriptLine}
use Rattle.df_start.specs.declared.start.RootStart.{RootStart}
use Rattle.df_unit.specs.declared.call.Call.{Call}
use Rattle.df_unit.specs.declared.entry.Entry.{Entry}
use Rattle.df_unit.specs.declared.name.UnitName.{UnitName}

abbrev pub called : ScriptLine → UnitName × Call
called line = (line.actor, line.call)

-- the journal of the lines' calls, made one after another from these roots; the newest entry stands
-- first
abbrev pub journal_of : List RootStart → List ScriptLine → List Entry
journal_of roots lines = run rows (firsts roots) (reverse (map called lines))

-- the text is that of the journal of the lines
abbrev pub Records : List RootStart → List ScriptLine → List ℕ → Type 0
Records roots lines text = text ≡ noted_journal roots (journal_of roots lines)

-- the bytes are the text of a script, and the text is that of the journal of its calls, which is
-- sound, and into which nothing was emitted
abbrev pub RecordsScript : List ℕ → List ℕ → Type 0
RecordsScript bytes text =
    (roots : List RootStart) × (lines : List ScriptLine) × IsScript roots lines
    × (bytes ≡ script_text roots lines) × Records roots lines text
    × IsUnaided (journal_of roots lines) × IsSound (firsts roots) (journal_of roots lines)

-- the tables, which agreed with this state, made the line's call, and the lines of its entry were
-- appended
pub record AppendsStep (line : ScriptLine) (core : State) (tables : Tables) (before now : List ℕ)
    : Type 0 where
  pub made : AgreesWith (appended line.actor line.call core) tables
  pub text : now
      ≡ before ++ noted_text (noted_in core (answered rows (firsts core.0) core.1 line.actor
      line.call))
