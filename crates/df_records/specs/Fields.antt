-- What the fields of records spell.
use Rattle.std.specs.Prelude.{◌+◌, ◌-◌, ◌*◌, ℕ, Bool, true, List, [], ◌∷◌, ◌==◌, ◌&&◌, if◌then◌else◌, nat_le, length, Option, Some, None}

-- a digit
abbrev pub is_digit : ℕ → Bool
is_digit b = nat_le 48 b && nat_le b 57

-- the number that digits spell behind n, if it doesn't pass the most
abbrev pub number_from : ℕ → ℕ → List ℕ → Option ℕ
number_from most n [] = Some n
number_from most n (b ∷ bs) =
    if is_digit b && nat_le (10 * n + (b - 48)) most then number_from most (10 * n + (b - 48)) bs
    else None

-- a number that is at least the least
abbrev pub from_least : ℕ → Option ℕ → Option ℕ
from_least least None = None
from_least least (Some n) = if nat_le least n then Some n else None

-- the number that a field spells, from the least to the most, without sign or leading zero
abbrev pub number : ℕ → ℕ → List ℕ → Option ℕ
number least most [] = None
number least most (b ∷ []) = from_least least (number_from most 0 (b ∷ []))
number least most (b ∷ c ∷ bs) =
    if b == 48 then None else from_least least (number_from most 0 (b ∷ c ∷ bs))

-- letters A to Z
abbrev pub are_letters : List ℕ → Bool
are_letters [] = true
are_letters (b ∷ bs) = (nat_le 65 b && nat_le b 90) && are_letters bs

-- a symbol: 1 to 8 letters A to Z
abbrev pub is_symbol : List ℕ → Bool
is_symbol bytes = nat_le 1 (length bytes) && (nat_le (length bytes) 8 && are_letters bytes)
