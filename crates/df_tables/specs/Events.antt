-- How events are found by their names.
use Rattle.std.specs.Prelude.{◌≡◌, ◌⊎◌, ℕ, Bool, suc, if◌then◌else◌, List, [], ◌∷◌, ◌++◌, Option, Some, None}
use Rattle.std.specs.Option.{option_map}
use Rattle.df_unit.specs.Name.{same_event}
use Rattle.df_unit.specs.declared.name.EventName.{EventName}
use Rattle.df_unit.specs.declared.name.UnitName.TheVariants.{Root}
use Rattle.df_tables.specs.EventPlaces.{key_of, place_at}
use Rattle.df_tables.specs.declared.event_places.EventPlaces.{EventPlaces}
use Rattle.df_tables.specs.declared.events.EventRow.{EventRow}

-- the place of the first that passes the test
abbrev pub place_by : {A : Type 0} → (A → Bool) → List A → Option ℕ
place_by p [] = None
place_by p (x ∷ xs) = if p x then Some 0 else option_map suc (place_by p xs)

-- the place of an event's row
abbrev pub event_place : EventName → List EventRow → Option ℕ
event_place event rows = place_by (λ r. same_event r.event event) rows

-- a row without parts
abbrev pub blank : EventName → EventRow
blank event = record { event = event; contents = [] }

-- the event of this number of a root
abbrev pub root_event : ℕ → ℕ → EventName
root_event root number = record { unit = Root (root ∷ []); number = number }

-- at most a row without parts is new, for an event that had none
abbrev pub IsOpened : EventName → List EventRow → List EventRow → Type 0
IsOpened event old new =
    (new ≡ old) ⊎ ((event_place event old ≡ None) × (new ≡ old ++ blank event ∷ []))

-- the place of each event's row is kept
abbrev pub IsPlaced : List EventRow → EventPlaces → Type 0
IsPlaced rows places = (event : EventName) → place_at places (key_of event) ≡ event_place event rows
