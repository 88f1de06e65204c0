-- The keys of events, and the places that they have.
use Rattle.std.specs.Prelude.{ℕ, Bool, false, ◌&&◌, ◌==◌, List, [], ◌∷◌, Option, Some, None, get_or, slice_get}
use Rattle.std.specs.BTreeMap as tree
use Rattle.std.specs.BTreeMap.{BTreeMap}
use Rattle.std.specs.Global.{Vec}
use Rattle.std.specs.Option.{option_and_then, option_or}
use Rattle.std.specs.Ordering.{nat_cmp, ordering_then}
use Rattle.std.specs.declared.cmp.Ordering.{Ordering}
use Rattle.df_unit.specs.UnitOrder.{unit_cmp}
use Rattle.df_unit.specs.declared.name.EventName.{EventName}
use Rattle.df_unit.specs.declared.name.UnitName.{UnitName}
use Rattle.df_unit.specs.declared.name.UnitName.TheVariants.{Root, Managed}
use Rattle.df_tables.specs.declared.event_places.EventPlaces.{EventPlaces}
use Rattle.df_tables.specs.declared.event_places.Key.{Key}
use Rattle.df_tables.specs.declared.event_places.Key.TheVariants.{Numbered, Named}

-- the number of a path of one
abbrev pub sole_number : List ℕ → Option ℕ
sole_number [] = None
sole_number (r ∷ []) = Some r
sole_number (r ∷ n ∷ path) = None

-- a root's number
abbrev pub root_number : UnitName → Option ℕ
root_number (Root path) = sole_number path
root_number (Managed owner sub s) = None

-- the key of an event, by its number and its unit, and the number of the root that this is
abbrev pub key_by : Option ℕ → ℕ → UnitName → Key
key_by None n unit = Named (n, unit)
key_by (Some r) n unit = Numbered r n

-- an event's key
abbrev pub key_of : EventName → Key
key_of event = key_by (root_number event.unit) event.number event.unit

-- names go by number, then by unit
abbrev pub event_name_cmp : ℕ × UnitName → ℕ × UnitName → Ordering
event_name_cmp a b = ordering_then (nat_cmp a.0 b.0) (unit_cmp a.1 b.1)

-- pairs of numbers go by the first, then by the second
abbrev pub numbers_cmp : ℕ × ℕ → ℕ × ℕ → Ordering
numbers_cmp a b = ordering_then (nat_cmp a.0 b.0) (nat_cmp a.1 b.1)

-- whether two keys are one
abbrev pub same_key : Key → Key → Bool
same_key (Numbered r n) (Numbered s m) = (r == s) && (n == m)
same_key (Named a) (Named b) = tree.is_at (event_name_cmp a) b
same_key (Numbered r n) (Named b) = false
same_key (Named a) (Numbered s m) = false

-- tables of slots, for the roots by their numbers
abbrev pub Near : Type 0
Near = List (Vec (Option ℕ))

-- the place in a slot
abbrev pub slot : List (Option ℕ) → ℕ → Option ℕ
slot slots number = get_or slots number None

-- the place in the slot of a root's event
abbrev pub slot_in : Near → ℕ → ℕ → Option ℕ
slot_in near root number = option_and_then (λ slots. slot slots.items number) (slice_get near root)

-- places by the numbers of roots and of their events
abbrev pub Strays : Type 0
Strays = BTreeMap (ℕ × ℕ) ℕ

-- places by the numbers and the units of events
abbrev pub Others : Type 0
Others = BTreeMap (ℕ × UnitName) ℕ

-- the place that a key has, in a slot or in a map
abbrev pub place_by : Near → Strays → Others → Key → Option ℕ
place_by near strays named (Numbered r n) =
    option_or (slot_in near r n) (tree.get numbers_cmp strays (r, n))
place_by near strays named (Named name) = tree.get event_name_cmp named name

-- the place that a key has
abbrev pub place_at : EventPlaces → Key → Option ℕ
place_at p key = place_by p.near.items p.strays p.named key
