-- Common lines.
use Rattle.std.specs.Prelude.{ℕ, [], ◌∷◌}
use Rattle.df_journal_text.specs.Ask.{asked}
use Rattle.df_journal_text.specs.declared.ask.Ask.{Ask}
use Rattle.df_unit.specs.declared.call.Call.{Call}
use Rattle.df_unit.specs.declared.name.UnitName.TheVariants.{Root}
use Rattle.df_script_text.specs.declared.line.ScriptLine.{ScriptLine}

-- a root's call
abbrev pub root_call : ℕ → Call → ScriptLine
root_call root call = record { actor = Root (root ∷ []); call = call }

-- a root's call that is one of the commonest
abbrev pub common_line : ℕ → Ask → ScriptLine
common_line root ask = root_call root (asked ask)
