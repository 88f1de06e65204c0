-- Reading a number: no zero stands in front, and a digit that passes the range ends it.
use Rattle.std.specs.Prelude.{ℕ, ◌+◌, ◌-◌, ◌*◌, Bool, false, ◌&&◌, List, [], ◌∷◌, Ok, Err, ◌==◌, nat_le, if◌then◌else◌}
use Rattle.std.specs.Char.{is_ascii_digit}
use Rattle.df_format.specs.Reading.{Bad, Read}

-- further digits, as long as the number is at most this
abbrev pub digits_at : ℕ → ℕ → List ℕ → ℕ × List ℕ
digits_at most n [] = (n, [])
digits_at most n (c ∷ cs) = if is_ascii_digit c && nat_le (10 * n + (c - 48)) most
    then digits_at most (10 * n + (c - 48)) cs else (n, c ∷ cs)

-- the longest number of at most this
abbrev pub number_at : ℕ → List ℕ → Read ℕ ℕ
number_at most [] = Err (Bad [])
number_at most (c ∷ cs) =
    if is_ascii_digit c && nat_le (c - 48) most
    then (if c == 48 then Ok (0, cs) else Ok (digits_at most (c - 48) cs))
    else Err (Bad (c ∷ cs))

-- whether this byte stands in front
abbrev pub begins_with : ℕ → List ℕ → Bool
begins_with byte [] = false
begins_with byte (c ∷ cs) = c == byte
