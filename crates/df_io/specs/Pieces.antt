-- What a read and a write of a piece do.
use Rattle.std.specs.Prelude.{◌≡◌, ℕ, ◌-◌, ◌<◌, ◌≤◌, List, ◌++◌, length, take, drop, Result, Ok, Err, Option, Some, None, option_map, ⊤}

-- the piece at a place of a file's bytes was read, and 0 comes only at their end
abbrev pub Reads : {E : Type 0} → Option (List ℕ) → ℕ → List ℕ → List ℕ → Result ℕ E → Type 0
Reads None at before after r = ⊤
Reads (Some bytes) at before after (Err e) = ⊤
Reads (Some bytes) at before after (Ok n) = (take n after ≡ take n (drop at bytes))
    × (n ≤ length bytes - at) × (0 < length before → n ≡ 0 → length bytes ≤ at)

-- how many bytes of a piece a write takes
abbrev pub Takes : {E : Type 0} → List ℕ → Result ℕ E → Type 0
Takes piece (Err e) = ⊤
Takes piece (Ok n) = (n ≤ length piece) × (0 < length piece → 0 < n)

-- what a write of a piece appends: just what it took
abbrev pub Appends : {E : Type 0} → Option (List ℕ) → Option (List ℕ) → List ℕ → Result ℕ E → Type 0
Appends before after piece (Err e) = after ≡ before
Appends before after piece (Ok n) = after ≡ option_map (λ w. w ++ take n piece) before

-- all of a text was appended
abbrev pub HasAll : Option (List ℕ) → List ℕ → Option (List ℕ) → Type 0
HasAll before text after = after ≡ option_map (λ w. w ++ text) before

-- a front of a text was appended
abbrev pub HasFront : Option (List ℕ) → List ℕ → Option (List ℕ) → Type 0
HasFront before text after = (n : ℕ) × (n ≤ length text) × HasAll before (take n text) after
