-- What was read of an image so far.
use Rattle.std.proofs.Common.{◌≡◌, ℕ, ◌≤◌, List, length, take, Option}
use Rattle.std.specs.Prelude.{IfSome}

-- the first bytes of an image of this size, where the disk tells it
abbrev pub IsTaken : Option (List ℕ) → ℕ → ℕ → List ℕ → Type 0
IsTaken told size count got = IfSome told (λ bs. (got ≡ take count bs) × (count ≤ length bs) × (size ≡ length bs))
