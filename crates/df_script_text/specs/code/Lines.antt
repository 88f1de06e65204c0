-- The lines of a script without their line feeds.
use Rattle.std.specs.Prelude.{ℕ, ◌+◌, List, [], ◌∷◌, ◌++◌, map, codes, decimal}
use Rattle.df_format.specs.Reading.{Read, as_at, behind_at, then_at}
use Rattle.df_start.specs.declared.start.RootStart.{RootStart}
use Rattle.df_value_text.specs.ReadLabel.{label_at}
use Rattle.df_journal_text.specs.Front.{call_front}
use Rattle.df_journal_text.specs.ReadStart.{root_of}
use Rattle.df_journal_text.specs.ReadWords.{privileges_at, word_at}
use Rattle.df_journal_text.specs.Start.{root_text}
use Rattle.df_script_text.specs.declared.line.ScriptLine.{ScriptLine}

-- a call's line
abbrev pub call_line : ScriptLine → List ℕ
call_line l = call_front l.actor l.call

-- the root that is read of the line of this number
abbrev pub root_line_at : ℕ → List ℕ → Read ℕ RootStart
root_line_at number bytes =
    behind_at (codes "unit ") (behind_at (decimal number)
    (as_at root_of (then_at (word_at label_at) privileges_at))) bytes

-- the lines of these, of which the first has this number
abbrev pub numbered : {X : Type 0} → (ℕ → X → List ℕ) → ℕ → List X → List (List ℕ)
numbered spell number [] = []
numbered spell number (x ∷ xs) = spell number x ∷ numbered spell (number + 1) xs

-- the lines up to those of calls
abbrev pub head_lines : List RootStart → List (List ℕ)
head_lines roots = codes "defcon-script 1" ∷ numbered root_text 0 roots

-- the lines of a script
abbrev pub script_lines : List RootStart × List ScriptLine → List (List ℕ)
script_lines script = head_lines script.0 ++ codes "run" ∷ map call_line script.1
