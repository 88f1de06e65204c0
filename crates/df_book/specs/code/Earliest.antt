-- Which resting order came first.
use Rattle.std.specs.Prelude.{ℕ, nat_lt, if◌then◌else◌, List, [], ◌∷◌, Option, Some, None}
use Rattle.std.specs.Borrow.{Bor}
use Rattle.df_book.specs.declared.order.Order.{Order}
use Rattle.df_book.specs.declared.place.Place.{Place}
use Rattle.df_book.specs.declared.place.Rest.{Rest}
use Rattle.df_book.specs.code.Places.{arrived}

-- an order with its arrival, as the code has it
abbrev pub shown : Option (Bor Place × Bor Rest) → Option (ℕ × Order)
shown None = None
shown (Some p) = Some (arrived (p.0.now, p.1.now))

-- an order that arrived from a number on
abbrev pub due : ℕ → Place × Rest → Option (ℕ × Order)
due from e = if nat_lt e.0.arrival from then None else Some (arrived e)

-- the one of two that came first
abbrev pub sooner_of : ℕ × Order → ℕ × Order → Option (ℕ × Order)
sooner_of a b = if nat_lt a.0 b.0 then Some a else Some b

-- the same where there may be none
abbrev pub sooner : Option (ℕ × Order) → Option (ℕ × Order) → Option (ℕ × Order)
sooner None b = b
sooner (Some a) None = Some a
sooner (Some a) (Some b) = sooner_of a b

-- what came first of all that arrived from a number on
abbrev pub earliest : ℕ → List (Place × Rest) → Option (ℕ × Order)
earliest from [] = None
earliest from (e ∷ es) = sooner (due from e) (earliest from es)

-- the orders that arrived from a number on
abbrev pub since : ℕ → List (ℕ × Order) → List (ℕ × Order)
since from [] = []
since from (x ∷ xs) = if nat_lt x.0 from then since from xs else x ∷ xs
