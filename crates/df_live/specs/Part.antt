-- A part of a line.
use Rattle.std.specs.Prelude.{◌≡◌, ℕ, ◌+◌, ◌≤◌, true, false, List, ◌∷◌, ◌++◌, length, take, drop}
use Rattle.df_lines.specs.Lines.{IsLine}
use Rattle.df_live.specs.declared.part.Part.{Part}

-- the bytes up to the first line feed were appended, or all where there is none
pub record AppendsPart (left old new : List ℕ) (part : Part) : Type 0 where
  pub line : IsLine (take part.count left)
  pub appended : new ≡ old ++ take part.count left
  pub within : part.count ≤ length left
  pub feed : part.ends ≡ true → drop part.count left ≡ 10 ∷ drop (part.count + 1) left
  pub all : part.ends ≡ false → part.count ≡ length left
