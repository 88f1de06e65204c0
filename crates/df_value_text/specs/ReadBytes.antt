-- Reading bytes, in pairs of hexadecimal digits.
use Rattle.std.specs.Prelude.{ℕ, ◌+◌, ◌-◌, ◌*◌, ◌<◌, Bool, ◌&&◌, ◌||◌, List, [], ◌∷◌, Ok, Err, nat_le, nat_lt, if◌then◌else◌}
use Rattle.std.specs.List.{AllByRecursion}
use Rattle.df_format.specs.Reading.{Bad, Read, all_at, starts, behind_at, closed_at}

-- 0 to 9 or a to f
abbrev pub is_hex : ℕ → Bool
is_hex c = (nat_le 48 c && nat_le c 57) || (nat_le 97 c && nat_le c 102)

-- what the digit stands for
abbrev pub hex_value : ℕ → ℕ
hex_value c = if nat_lt c 58 then c - 48 else c - 87

-- the byte of two digits
abbrev pub hex_byte : ℕ → ℕ → ℕ
hex_byte high low = 16 * hex_value high + hex_value low

-- the byte of two digits that pass these tests, the second behind the first
abbrev pub two_at : (ℕ → Bool) → (ℕ → ℕ → Bool) → List ℕ → Read ℕ ℕ
two_at high low [] = Err (Bad [])
two_at high low (a ∷ []) = if high a then Err (Bad []) else Err (Bad (a ∷ []))
two_at high low (a ∷ b ∷ cs) =
    if high a
    then (if low a b then Ok (hex_byte a b, cs) else Err (Bad (b ∷ cs)))
    else Err (Bad (a ∷ b ∷ cs))

-- as many pairs of digits as there are
abbrev pub pairs_at : List ℕ → Read ℕ (List ℕ)
pairs_at bytes = all_at (starts is_hex) (two_at is_hex (λ a. is_hex)) bytes

-- bytes, behind `x"` and in front of `"`
abbrev pub bytes_at : List ℕ → Read ℕ (List ℕ)
bytes_at bytes = behind_at (120 ∷ 34 ∷ []) (closed_at (34 ∷ []) pairs_at) bytes

-- bytes of 8 bits
abbrev pub AreBytes : List ℕ → Type 0
AreBytes bs = AllByRecursion (λ b. b < 256) bs
