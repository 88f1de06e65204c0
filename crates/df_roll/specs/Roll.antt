-- Where each unit's row stands, in the order of units.
use Rattle.std.specs.Prelude.{ℕ, if◌then◌else◌, List, [], ◌∷◌, Option, Some, None, map}
use Rattle.df_unit.specs.Name.{same}
use Rattle.df_unit.specs.declared.name.UnitName.{UnitName}
use Rattle.df_roll.specs.declared.seat.Seat.{Seat}

-- the seats, and for how many more there is room
pub record RollState : Type 0 where
  pub seats : List Seat
  pub room : ℕ

-- the units that have a seat
abbrev pub names_in : List Seat → List UnitName
names_in seats = map (λ s. s.unit) seats

-- the place of a unit's row, if it has one
abbrev pub seat_of : UnitName → List Seat → Option ℕ
seat_of n [] = None
seat_of n (s ∷ ss) = if same s.unit n then Some s.place else seat_of n ss
