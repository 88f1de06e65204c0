-- Calls, where they stand.
use Rattle.std.specs.Prelude.{◌≡◌, ℕ, ◌≤◌, List, ◌++◌, drop, length}
use Rattle.df_journal_text.specs.Front.{call_front}
use Rattle.df_script_text.specs.Script.{IsScriptLine}
use Rattle.df_script_text.specs.declared.line.ScriptLine.{ScriptLine}

-- these words of a call stand from one place to the other
pub record IsCallAt (bytes : List ℕ) (at : ℕ) (line : ScriptLine) (words : List ℕ) (end : ℕ)
    : Type 0 where
  pub fits : IsScriptLine line
  pub spelled : words ≡ call_front line.actor line.call
  pub inside : end ≤ length bytes
  pub stands : drop at bytes ≡ words ++ drop end bytes
