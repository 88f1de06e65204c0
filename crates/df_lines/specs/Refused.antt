-- What a refusal says of a file. IsLarge tells of the lines in front of a line and of that line
-- whether something too large stands there.
use Rattle.std.specs.Prelude.{◌≡◌, ℕ, ◌+◌, List, length, Result, Ok, Err, ⊤}
use Rattle.df_lines.specs.FirstBad.{IsFirstBad}
use Rattle.df_lines.specs.declared.refused.FileRefused.{FileRefused}
use Rattle.df_lines.specs.declared.refused.FileRefused.TheVariants as refused

-- the first bad line is the one of this number
pub record IsBadLine (IsText : List ℕ → Type 0) (text : List ℕ) (line : ℕ) (before : List (List ℕ))
    (bad : List ℕ) : Type 0 where
  pub first : IsFirstBad IsText text before bad
  pub number : line ≡ length before + 1

-- a refusal names the first bad line, and whether something too large stands there
abbrev pub NamesBadLine : (List ℕ → Type 0) → (List (List ℕ) → List ℕ → Type 0) → List ℕ →
    FileRefused → Type 0
NamesBadLine IsText IsLarge text (refused.Syntax line) =
    (before : List (List ℕ)) × (bad : List ℕ) × IsBadLine IsText text line before bad
    × ¬ IsLarge before bad
NamesBadLine IsText IsLarge text (refused.TooLarge line) =
    (before : List (List ℕ)) × (bad : List ℕ) × IsBadLine IsText text line before bad
    × IsLarge before bad
NamesBadLine IsText IsLarge text refused.NoMemory = ⊤

-- the answer is this refusal, unless there was no memory
abbrev pub IsRefused : {X : Type 0} → FileRefused → Result X FileRefused → Type 0
IsRefused why (Ok x) = ⊥
IsRefused why (Err refused.NoMemory) = ⊤
IsRefused why (Err e) = e ≡ why
