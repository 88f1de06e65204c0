-- The lines of a reader.
use Rattle.std.specs.Prelude.{◌≡◌, ℕ, ◌<◌, Bool, true, false, List, [], ◌∷◌, ◌++◌, length, slice_range, Option, option_map, Result, Ok, Err}
use Rattle.std.specs.Io.KnownBytes.{Consumes, IsAtEnd, Keeps}
use Rattle.df_lines.specs.Lines.{IsLine}
use Rattle.df_live.specs.declared.read_lines.ReadLines.{ReadLines}

-- how many reads failed
abbrev pub faults_of : {R : Type 0} → ReadLines R → ℕ
faults_of lines = lines.faults

-- what was read and isn't taken
abbrev pub left_in : {R : Type 0} → ReadLines R → List ℕ
left_in lines = slice_range lines.piece lines.start lines.end

-- what is still to come: what was read and isn't taken, and what the reader has left, where that is
-- known
abbrev pub left_of : {R : Type 0} → (R → Option (List ℕ)) → ReadLines R → Option (List ℕ)
left_of remaining lines = option_map (λ more. left_in lines ++ more) (remaining lines.from)

-- something that wasn't taken is left, or the reader is at its end
abbrev pub Fills : {R E : Type 0} → (R → Option (List ℕ)) → ReadLines R → ReadLines R →
    Result Bool E → Type 0
Fills remaining old new (Ok true) = Keeps (left_of remaining old) (left_of remaining new)
    × (0 < length (left_in new))
Fills remaining old new (Ok false) = Keeps (left_of remaining old) (left_of remaining new)
    × IsAtEnd (left_of remaining new)
Fills remaining old new (Err e) = Keeps (left_of remaining old) (left_of remaining new)

-- these bytes were moved to the line, and behind them its line feed was taken, or there was none
abbrev pub Moves : {E : Type 0} → Option (List ℕ) → Option (List ℕ) → List ℕ → Result Bool E →
    Type 0
Moves before after moved (Ok true) = Consumes before after (moved ++ 10 ∷ [])
Moves before after moved (Ok false) = Consumes before after moved × (0 < length moved)
Moves before after moved (Err e) = Consumes before after moved

-- a part of a line was moved to it
pub record TakesPart {E : Type 0} (before after : Option (List ℕ)) (old new : List ℕ)
    (result : Result Bool E) : Type 0 where
  pub moved : List ℕ
  pub line : IsLine moved
  pub appended : new ≡ old ++ moved
  pub source : Moves before after moved result
