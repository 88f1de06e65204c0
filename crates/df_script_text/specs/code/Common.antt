-- Calls of roots, where their lines stand.
use Rattle.std.specs.Prelude.{◌≡◌, ℕ, List, Some}
use Rattle.df_lines.specs.code.Faults.{TellsLine}
use Rattle.df_unit.specs.declared.call.Call.{Call}
use Rattle.df_journal_text.specs.Ask.{asked}
use Rattle.df_journal_text.specs.declared.ask.Ask.{Ask}
use Rattle.df_script_text.specs.Common.{root_call}
use Rattle.df_script_text.specs.Script.{IsScriptLine}
use Rattle.df_script_text.specs.code.Lines.{call_line}

-- the words of a root's call are the line at the place, and the next line stands behind them
pub record IsRootCallAt (bytes : List ℕ) (at root : ℕ) (call : Call) (words : List ℕ) (next : ℕ)
    : Type 0 where
  pub fits : IsScriptLine (root_call root call)
  pub spelled : words ≡ call_line (root_call root call)
  pub line : TellsLine bytes at (Some (words, next))

-- the same of one of the commonest calls
abbrev pub IsCommonAt : List ℕ → ℕ → ℕ → Ask → List ℕ → ℕ → Type 0
IsCommonAt bytes at root ask words next = IsRootCallAt bytes at root (asked ask) words next
