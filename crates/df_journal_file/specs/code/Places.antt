-- What is read from a place on, line by line, and why reading stops there.
use Rattle.std.specs.Prelude.{◌≡◌, ℕ, ◌<◌, ◌≤◌, true, false, List, ◌∷◌, ◌++◌, length, drop, Option, Some, None, Result, Ok, Err, ⊤}
use Rattle.std.specs.List.{All, flat_map}
use Rattle.df_lines.specs.Lines.{IsLine}
use Rattle.df_lines.specs.code.Stops.{IsSpelled, StopsAt}
use Rattle.df_lines.specs.declared.fault.FileFault.{FileFault}
use Rattle.df_lines.specs.declared.fault.FileFault.TheVariants as stop
use Rattle.df_journal_text.specs.ReadWords.{begins_pair}
use Rattle.df_journal_text.specs.declared.line_fault.LineFault.{LineFault}
use Rattle.df_script_text.specs.code.Stops.{fault_of}

-- the bytes up to the next line feed and the place behind it, or all that is left
abbrev pub IsLineHere : List ℕ → ℕ → List ℕ × Option ℕ → Type 0
IsLineHere bytes at (line, Some next) = IsLine line × (at < next) × (next ≤ length bytes)
    × (drop at bytes ≡ line ++ 10 ∷ drop next bytes)
IsLineHere bytes at (line, None) = IsLine line × (line ≡ drop at bytes)

-- what was read of the line that stands at the place, with the place behind its line feed
abbrev pub finished : {X : Type 0} → ℕ → Option ℕ → Result X LineFault → Result (X × ℕ) FileFault
finished at (Some next) (Ok x) = Ok (x, next)
finished at None (Ok x) = Err (stop.Bad at)
finished at next (Err f) = Err (fault_of at f)

-- why no such line is read at the place
abbrev pub StopsLine : {X : Type 0} → (X → List ℕ) → (X → Type 0) → (List ℕ → Type 0) → List ℕ →
    ℕ → FileFault → Type 0
StopsLine text Fits IsLarge bytes at stop.NoMemory = ⊤
StopsLine text Fits IsLarge bytes at (stop.Bad place) = (place ≡ at)
    × ((bad : List ℕ) × StopsAt (IsSpelled text Fits) (drop at bytes) bad × ¬ IsLarge bad)
StopsLine text Fits IsLarge bytes at (stop.TooLarge place) = (place ≡ at)
    × ((bad : List ℕ) × StopsAt (IsSpelled text Fits) (drop at bytes) bad × IsLarge bad)

-- from one place to the other this is spelled, and it fits
pub record IsHere {X : Type 0} (text : X → List ℕ) (Fits : X → Type 0) (bytes : List ℕ) (at : ℕ)
    (x : X) (end : ℕ) : Type 0 where
  pub fits : Fits x
  pub onward : at ≤ end
  pub inside : end ≤ length bytes
  pub parts : drop at bytes ≡ text x ++ drop end bytes

-- the line at the place is read, or it is told why not
abbrev pub TellsAt : {X : Type 0} → (X → List ℕ) → (X → Type 0) → (List ℕ → Type 0) → List ℕ → ℕ →
    Result (X × ℕ) FileFault → Type 0
TellsAt text Fits IsLarge bytes at (Ok x) = IsHere text Fits bytes at x.0 x.1 × (at < x.1)
TellsAt text Fits IsLarge bytes at (Err f) = StopsLine text Fits IsLarge bytes at f

-- from one place to the other stand the lines of these
abbrev pub ArePassed : {X : Type 0} → (X → List ℕ) → (X → Type 0) → List ℕ → ℕ → List X → ℕ →
    Type 0
ArePassed text Fits bytes at xs place = IsHere (flat_map text) (All Fits) bytes at xs place

-- all lines with this mark from the one place to the other
abbrev pub AreMarked : {X : Type 0} → (X → List ℕ) → (X → Type 0) → ℕ → List ℕ → ℕ → List X → ℕ →
    Type 0
AreMarked text Fits mark bytes at xs place = ArePassed text Fits bytes at xs place
    × (begins_pair mark 32 (drop place bytes) ≡ false)

-- why a further line with this mark isn't read
abbrev pub MarkedStop : {X : Type 0} → (X → List ℕ) → (X → Type 0) → (List ℕ → Type 0) → ℕ →
    List ℕ → ℕ → FileFault → Type 0
MarkedStop {X} text Fits IsLarge mark bytes at f = (xs : List X) × (place : ℕ)
    × ArePassed text Fits bytes at xs place
    × (begins_pair mark 32 (drop place bytes) ≡ true)
    × StopsLine text Fits IsLarge bytes place f
