-- Where reading stops, as the first bad line of what may stand from a place on. IsText tells what
-- may stand there, and IsLarge tells of the lines in front of a line and of that line whether
-- something too large stands there.
use Rattle.std.specs.Prelude.{◌≡◌, ℕ, ◌≤◌, List, ◌∷◌, ◌++◌, length, drop, ⊤}
use Rattle.df_lines.specs.FirstBad.{IsFirstBad}
use Rattle.df_lines.specs.Lines.{EndsLine, IsLine, ended}
use Rattle.df_lines.specs.declared.fault.FileFault.{FileFault}
use Rattle.df_lines.specs.declared.fault.FileFault.TheVariants as fault
use Rattle.df_lines.specs.declared.refused.BadKind.{BadKind}
use Rattle.df_lines.specs.declared.refused.BadKind.TheVariants.{Syntax, TooLarge}

-- the line of something that fits
abbrev pub IsSpelled : {X : Type 0} → (X → List ℕ) → (X → Type 0) → List ℕ → Type 0
IsSpelled {X} text Fits line = (x : X) × Fits x × (ended line ≡ text x)

-- this stands at the bytes: a line that isn't one of these, or one that has no line feed
pub record StopsAt (Is : List ℕ → Type 0) (bytes bad : List ℕ) : Type 0 where
  pub behind : List ℕ
  pub parts : bytes ≡ bad ++ behind
  pub line : IsLine bad
  pub end : EndsLine behind
  pub refused : (more : List ℕ) → behind ≡ 10 ∷ more → ¬ Is bad

-- what is wrong, where something may be too large
abbrev pub IsKind : BadKind → Type 0 → Type 0
IsKind Syntax Large = ¬ Large
IsKind TooLarge Large = Large

-- the first bad line of the text begins where this is left of it
pub record IsStop (IsText : List ℕ → Type 0) (IsLarge : List (List ℕ) → List ℕ → Type 0)
    (text left : List ℕ) (kind : BadKind) : Type 0 where
  pub before : List (List ℕ)
  pub bad : List ℕ
  pub first : IsFirstBad IsText text before bad
  pub here : left ≡ bad ++ first.behind
  pub told : IsKind kind (IsLarge before bad)

-- the fault's place is that of the first bad line, and whether something too large stands there is
-- told
abbrev pub StopsBy : (List ℕ → Type 0) → (List (List ℕ) → List ℕ → Type 0) → List ℕ → ℕ →
    FileFault → Type 0
StopsBy IsText IsLarge bytes at fault.NoMemory = ⊤
StopsBy IsText IsLarge bytes at (fault.Bad place) = (place ≤ length bytes)
    × IsStop IsText IsLarge (drop at bytes) (drop place bytes) Syntax
StopsBy IsText IsLarge bytes at (fault.TooLarge place) = (place ≤ length bytes)
    × IsStop IsText IsLarge (drop at bytes) (drop place bytes) TooLarge
