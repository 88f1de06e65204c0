-- When a fault may be answered.
use Rattle.std.specs.Prelude.{◌≡◌, ℕ, ◌+◌, ◌-◌, ◌^◌, ◌≤◌, min, Result, Ok, Err, OnErr}

-- one more of a count that stays at its greatest value, 2^64 - 1, once it is there
abbrev pub count_more : ℕ → ℕ
count_more n = min (n + 1) (2 ^ 64 - 1)

-- a count of faults rose, or stands at its greatest value
abbrev pub Rose : ℕ → ℕ → Type 0
Rose before now = count_more before ≤ now

-- a count of faults: as it was where the call is done, and one more where it failed
abbrev pub CountsEach : {T E : Type 0} → ℕ → ℕ → Result T E → Type 0
CountsEach before now (Ok value) = now ≡ before
CountsEach before now (Err failure) = now ≡ count_more before

-- a count of faults never falls, and a failure comes only where it rose
pub record Counts {T E : Type 0} (before now : ℕ) (result : Result T E) : Type 0 where
  pub never_falls : before ≤ now
  pub rose : OnErr result (Rose before now)
