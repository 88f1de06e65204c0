-- Reading a byte of ASCII within words.
use Rattle.std.specs.Prelude.{ℕ, Bool, ◌&&◌, ◌||◌, not, List, [], ◌∷◌, Option, Some, None, ◌==◌, nat_le, nat_lt, if◌then◌else◌}
use Rattle.df_format.specs.Reading.{Read, one_at, either_at, behind_at}
use Rattle.df_value_text.specs.ReadBytes.{is_hex, two_at}

-- `"` or `\`
abbrev pub is_quoted : ℕ → Bool
is_quoted c = (c == 34) || (c == 92)

-- a control byte
abbrev pub is_control : ℕ → Bool
is_control c = nat_lt c 32 || (c == 127)

-- a byte that stands for itself
abbrev pub is_plain : ℕ → Bool
is_plain c = nat_le 32 c && (nat_lt c 127 && not (is_quoted c))

-- the byte, if it passes the test
abbrev pub kept : (ℕ → Bool) → ℕ → Option ℕ
kept test c = if test c then Some c else None

-- the first digit of a control byte
abbrev pub is_high : ℕ → Bool
is_high a = (a == 48) || ((a == 49) || (a == 55))

-- the second, behind the first: of those that begin with 7 there is 7f alone
abbrev pub is_low : ℕ → ℕ → Bool
is_low a b = if a == 55 then b == 102 else is_hex b

-- a control byte in two digits
abbrev pub control_at : List ℕ → Read ℕ ℕ
control_at bytes = two_at is_high is_low bytes

-- what stands behind a `\`
abbrev pub escape_at : List ℕ → Read ℕ ℕ
escape_at bytes = either_at is_quoted (one_at (kept is_quoted)) control_at bytes

-- a byte of ASCII, as it is escaped
abbrev pub ascii_at : List ℕ → Read ℕ ℕ
ascii_at bytes =
    either_at (λ c. c == 92) (behind_at (92 ∷ []) escape_at) (one_at (kept is_plain)) bytes
