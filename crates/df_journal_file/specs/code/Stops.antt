-- Why reading stops, as the first bad line of what may stand from a place on.
use Rattle.std.specs.Prelude.{ℕ, List}
use Rattle.df_lines.specs.code.Stops.{StopsBy}
use Rattle.df_lines.specs.declared.fault.FileFault.{FileFault}
use Rattle.df_journal_file.specs.TooLarge.{IsLargeIn}

-- the fault's place is that of the first bad line, and whether a value is too large there is told
abbrev pub StopsIn : (List ℕ → Type 0) → List ℕ → ℕ → FileFault → Type 0
StopsIn IsText bytes at f = StopsBy IsText (IsLargeIn IsText) bytes at f

-- where reading stops behind the one place, it stops as well behind the other
abbrev pub Onto : (List ℕ → Type 0) → List ℕ → ℕ → (List ℕ → Type 0) → ℕ → Type 0
Onto IsText bytes at IsRest place = (f : FileFault) → StopsIn IsRest bytes place f
    → StopsIn IsText bytes at f
