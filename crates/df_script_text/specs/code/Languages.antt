-- What may stand in a script from a place on.
use Rattle.std.specs.Prelude.{◌≡◌, ℕ, ◌+◌, ◌<◌, ◌^◌, List, [], ◌++◌, length, codes}
use Rattle.std.specs.List.{All, flat_map}
use Rattle.df_journal_text.specs.Fits.{IsRoot}
use Rattle.df_journal_text.specs.Line.{line}
use Rattle.df_journal_text.specs.Start.{roots_text}
use Rattle.df_start.specs.declared.start.RootStart.{RootStart}
use Rattle.df_script_text.specs.Script.{IsScriptLine, script_line}
use Rattle.df_script_text.specs.declared.line.ScriptLine.{ScriptLine}

-- the lines of calls
abbrev pub CallsFrom : List ℕ → Type 0
CallsFrom s = (lines : List ScriptLine) × All IsScriptLine lines × (s ≡ flat_map script_line lines)

-- the lines of roots, of which the first has this number, the line `run`, and what stands behind it
abbrev pub HeadFrom : (List ℕ → Type 0) → ℕ → List ℕ → Type 0
HeadFrom Rest n s = (roots : List RootStart) × (rest : List ℕ) × (n + length roots < 2 ^ 32)
    × All IsRoot roots × Rest rest × (s ≡ roots_text n roots ++ (line (codes "run") [] ++ rest))
