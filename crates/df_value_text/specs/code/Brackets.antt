-- Bits, the lowest first.
use Rattle.std.specs.Prelude.{ℕ, zero, suc, ◌/◌, ◌%◌, Bool, List, [], ◌∷◌, ◌==◌}

-- so many bits of a number, the lowest first
abbrev pub bits : ℕ → ℕ → List Bool
bits zero n = []
bits (suc count) n = (n % 2 == 1) ∷ bits count (n / 2)
