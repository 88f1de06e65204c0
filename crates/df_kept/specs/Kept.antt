-- What is kept of units, by their names.
use Rattle.std.specs.Prelude.{◌≡◌, ◌<◌, ℕ, true, List, length, Option, Some, slice_get}
use Rattle.std.specs.Option.{option_and_then}
use Rattle.std.specs.Coded.{Coded, coded×, coded_list}
use Rattle.df_roll.specs.Roll.{seat_of}
use Rattle.df_roll.specs.contracts.seat.Seat as seat
use Rattle.df_roll.specs.declared.seat.Seat.{Seat}
use Rattle.df_unit.specs.Name.{same}
use Rattle.df_unit.specs.declared.name.UnitName.{UnitName}

-- the places of what is kept, and what is kept at them
abbrev pub KeptState : Type 0 → Type 0
KeptState V = List Seat × List V

abbrev pub kept_code : {V : Type 0} → Coded V → Coded (KeptState V)
kept_code code = coded× (coded_list seat.the_row.coded) (coded_list code)

-- what is kept of a unit
abbrev pub kept_at : {V : Type 0} → UnitName → KeptState V → Option V
kept_at n kept = option_and_then (slice_get kept.1) (seat_of n kept.0)

-- at each place of a unit something is kept, and no two units have one place
pub record AreKept {V : Type 0} (kept : KeptState V) : Type 0 where
  pub within : (n : UnitName) (k : ℕ) → seat_of n kept.0 ≡ Some k → k < length kept.1
  pub apart : (n m : UnitName) (k : ℕ) → seat_of n kept.0 ≡ Some k → seat_of m kept.0 ≡ Some k →
      same n m ≡ true

-- a unit's value is kept at this place
pub record IsPlace {V : Type 0} (n : UnitName) (k : ℕ) (kept : KeptState V) : Type 0 where
  pub seat : seat_of n kept.0 ≡ Some k
  pub within : k < length kept.1
