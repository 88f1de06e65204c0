-- Reading scripts.
use Rattle.std.specs.Prelude.{ℕ, List, codes}
use Rattle.df_format.specs.Reading.{Read, as_at, then_at, behind_at, all_at}
use Rattle.df_start.specs.declared.start.RootStart.{RootStart}
use Rattle.df_unit.specs.declared.call.Call.{Call}
use Rattle.df_unit.specs.declared.name.UnitName.{UnitName}
use Rattle.df_value_text.specs.ReadTag.{begins_digit}
use Rattle.df_journal_text.specs.ReadCall.{call_at}
use Rattle.df_journal_text.specs.ReadName.{unit_at}
use Rattle.df_journal_text.specs.ReadStart.{start_at}
use Rattle.df_journal_text.specs.ReadWords.{line_at}
use Rattle.df_script_text.specs.declared.line.ScriptLine.{ScriptLine}

abbrev pub script_line_of : UnitName × Call → ScriptLine
script_line_of x = record { actor = x.0; call = x.1 }

-- the line of a call: who makes it, and its words
abbrev pub script_line_at : List ℕ → Read ℕ ScriptLine
script_line_at bytes = line_at (as_at script_line_of (then_at unit_at call_at)) bytes

-- a script: its start and its calls
abbrev pub script_at : List ℕ → Read ℕ (List RootStart × List ScriptLine)
script_at bytes =
    behind_at (codes "defcon-script 1\n") (then_at start_at
    (behind_at (codes "run\n") (all_at begins_digit script_line_at))) bytes
