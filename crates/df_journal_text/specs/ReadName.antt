-- Reading the names of units and events.
use Rattle.std.specs.Prelude.{ℕ, List, [], ◌∷◌, Option, Some, None, ◌==◌}
use Rattle.df_format.specs.Reading.{Read, as_at, then_at, maybe_at, behind_at, closed_at}
use Rattle.df_unit.specs.declared.name.UnitName.{UnitName}
use Rattle.df_unit.specs.declared.name.UnitName.TheVariants.{Root, Managed}
use Rattle.df_unit.specs.declared.name.EventName.{EventName}
use Rattle.df_value_text.specs.ReadTag.{numbers_at, short_at, tags_at}

-- `/`, a subscription's number, and tags in braces
abbrev pub instance_at : List ℕ → Read ℕ (ℕ × List (List ℕ))
instance_at bytes =
    behind_at (47 ∷ []) (then_at short_at (behind_at (123 ∷ []) (closed_at (125 ∷ []) tags_at)))
    bytes

-- the unit of a path, and of what stands behind it
abbrev pub unit_of : List ℕ × Option (ℕ × List (List ℕ)) → UnitName
unit_of (path, None) = Root path
unit_of (path, Some i) = Managed path i.0 i.1

abbrev pub unit_at : List ℕ → Read ℕ UnitName
unit_at bytes = as_at unit_of (then_at numbers_at (maybe_at (λ c. c == 47) instance_at)) bytes

abbrev pub event_of : UnitName × ℕ → EventName
event_of parts = record { unit = parts.0; number = parts.1 }

-- a unit, `!` and a number
abbrev pub event_at : List ℕ → Read ℕ EventName
event_at bytes = as_at event_of (then_at unit_at (behind_at (33 ∷ []) short_at)) bytes
