-- What the calls of a disk do to its bytes, and what a crash may leave of them.
use Rattle.std.specs.Prelude.{◌≡◌, ◌⊎◌, ℕ, ◌+◌, ◌≤◌, max, List, ◌++◌, length, take, drop, Option, Some, None, option_map, Result, Ok, Err, ⊤}

-- ---- bytes

-- these bytes with a piece at a place, over what is there and past the end
abbrev pub overwritten : ℕ → List ℕ → List ℕ → List ℕ
overwritten at piece bytes = take at bytes ++ piece ++ drop (at + length piece) bytes

-- after a write of n bytes at a place: any bytes in the range and past the old end, the same ones
-- elsewhere, and a size between the old and the new one
pub record Torn (at n : ℕ) (old new : List ℕ) : Type 0 where
  pub before : take at new ≡ take at old
  pub after : drop (at + n) new ≡ drop (at + n) old
  pub no_shorter : length old ≤ length new
  pub no_longer : length new ≤ max (length old) (at + n)

-- a write, where the disk tells its bytes: done, the piece stands at its place and nothing else has
-- changed; failed, what lies outside its range is as it was
abbrev pub Writes : {T E : Type 0} → ℕ → List ℕ → Option (List ℕ) → Option (List ℕ) → Result T E
    → Type 0
Writes at piece before after (Ok value) = after ≡ option_map (overwritten at piece) before
Writes at piece None after (Err failure) = after ≡ None
Writes at piece (Some old) after (Err failure) =
    (new : List ℕ) × (after ≡ Some new) × Torn at (length piece) old new

-- ---- crashes

-- each image that a crash may leave now comes by a step from one that it might have left before
abbrev pub Follows : (List ℕ → List ℕ → Type 0) → (List ℕ → Type 0) → (List ℕ → Type 0) → Type 0
Follows step old new = (c : List ℕ) → new c → (d : List ℕ) × old d × step d c

-- a crash leaves no image that it might not have left before
abbrev pub NoMore : (List ℕ → Type 0) → (List ℕ → Type 0) → Type 0
NoMore old new = (c : List ℕ) → new c → old c

-- a crash leaves this image and no other
abbrev pub Only : List ℕ → (List ℕ → Type 0) → Type 0
Only image may_leave = (c : List ℕ) → may_leave c → c ≡ image

-- nothing is pending: where the disk tells its bytes, a crash leaves just them
abbrev pub IsSettled : Option (List ℕ) → (List ℕ → Type 0) → Type 0
IsSettled None may_leave = ⊤
IsSettled (Some image) may_leave = Only image may_leave

-- where the disk tells its bytes, a crash may leave just them
abbrev pub MayStay : Option (List ℕ) → (List ℕ → Type 0) → Type 0
MayStay None may_leave = ⊤
MayStay (Some image) may_leave = may_leave image

-- time goes on: a crash since t might have left what it might have left before, or what it may now
pub record Elapses (before now : ℕ) (past since : ℕ → List ℕ → Type 0) (may_leave : List ℕ → Type 0)
    : Type 0 where
  pub later : before ≤ now
  pub nothing_else : (t : ℕ) (c : List ℕ) → t ≤ before → since t c → past t c ⊎ may_leave c
  pub keeps : (t : ℕ) (c : List ℕ) → t ≤ before → past t c → since t c

-- each image that a crash might have left at a moment since the old state has P
pub record LeavesOnly {D : Type 0} (moment : D → ℕ) (left_since : D → ℕ → List ℕ → Type 0)
    (old new : D) (P : List ℕ → Type 0) : Type 0 where
  pub later : moment old ≤ moment new
  pub each : (c : List ℕ) → left_since new (moment old) c → P c
  -- for a run that began earlier
  pub before : (t : ℕ) (c : List ℕ) → t ≤ moment old → left_since new t c → left_since old t c ⊎ P c

-- calls that wrote nothing: no image joins those that a crash might have left since a moment before
pub record Recedes (before now : ℕ) (past since : ℕ → List ℕ → Type 0) : Type 0 where
  pub later : before ≤ now
  pub nothing_new : (t : ℕ) (c : List ℕ) → t ≤ before → since t c → past t c
