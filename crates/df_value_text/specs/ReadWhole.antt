-- Reading a whole number.
use Rattle.std.specs.Prelude.{ℕ, ◌-◌, ◌<◌, ◌^◌, List, [], ◌∷◌, Err, ℤ, pos, negsuc, ◌==◌, if◌then◌else◌}
use Rattle.df_format.specs.Reading.{Bad, Read, as_at, either_at, behind_at}
use Rattle.df_value_text.specs.Number.{number_at}

-- a whole number of 64 bits
abbrev pub IsWhole : ℤ → Type 0
IsWhole (pos n) = n < 2 ^ 63
IsWhole (negsuc n) = n < 2 ^ 63

-- the longest number of at most this that isn't 0
abbrev pub positive_at : ℕ → List ℕ → Read ℕ ℕ
positive_at most [] = Err (Bad [])
positive_at most (c ∷ cs) = if c == 48 then Err (Bad (c ∷ cs)) else number_at most (c ∷ cs)

-- the number below 0 that is as far from it
abbrev pub minus : ℕ → ℤ
minus n = negsuc (n - 1)

abbrev pub whole_at : List ℕ → Read ℕ ℤ
whole_at bytes =
    either_at (λ c. c == 45) (behind_at (45 ∷ []) (as_at minus (positive_at 9223372036854775808)))
    (as_at pos (number_at 9223372036854775807)) bytes
