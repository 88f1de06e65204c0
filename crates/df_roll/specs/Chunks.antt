-- Seats in chunks.
use Rattle.std.specs.Prelude.{◌≡◌, ℕ, ◌+◌, ◌<◌, ⊤, List, [], ◌∷◌, ◌++◌, length, take}
use Rattle.std.specs.List.{insert}
use Rattle.std.specs.declared.cmp.Ordering.{Ordering}
use Rattle.std.specs.declared.cmp.Ordering.TheVariants.{Less}
use Rattle.df_label.specs.Ascending.{IsAscending}
use Rattle.df_unit.specs.UnitOrder.{unit_cmp}
use Rattle.df_unit.specs.declared.name.UnitName.{UnitName}
use Rattle.df_roll.specs.Roll.{names_in}
use Rattle.df_roll.specs.declared.seat.Seat.{Seat}

-- the seats of all chunks
abbrev pub joined : List (List Seat) → List Seat
joined [] = []
joined (c ∷ cs) = c ++ joined cs

-- each chunk has a seat
abbrev pub AreFilled : List (List Seat) → Type 0
AreFilled [] = ⊤
AreFilled (c ∷ cs) = (0 < length c) × AreFilled cs

-- no chunk is without seats, and the seats of all stand in the order of units
pub record AreOrdered (cs : List (List Seat)) : Type 0 where
  pub filled : AreFilled cs
  pub order : IsAscending unit_cmp (names_in (joined cs))

-- each of these units comes before n
abbrev pub IsAbove : UnitName → List UnitName → Type 0
IsAbove n [] = ⊤
IsAbove n (m ∷ ms) = (unit_cmp m n ≡ Less) × IsAbove n ms

-- how a chunk's first seat and a unit stand to each other; a chunk without seats comes before all
abbrev pub first_cmp : List Seat → UnitName → Ordering
first_cmp [] n = Less
first_cmp (s ∷ ss) n = unit_cmp s.unit n

-- how many seats stand before a place in a chunk
abbrev pub place_in : List (List Seat) → ℕ → ℕ → ℕ
place_in cs chunk at = length (joined (take chunk cs)) + at

-- one more seat stands at a place in a chunk, and no chunk is without seats
pub record IsPut (chunk at : ℕ) (seat : Seat) (old new : List (List Seat)) : Type 0 where
  pub seats : joined new ≡ insert (joined old) (place_in old chunk at) seat
  pub filled : AreFilled old → AreFilled new
