-- The walk from an entry back to those on which it rests, by numbers and places alone.
use Rattle.std.specs.Prelude.{◌≡◌, ℕ, zero, suc, ◌-◌, ◌<◌, Bool, false, ◌&&◌, ◌||◌, ◌==◌, if◌then◌else◌, List, [], ◌∷◌, ◌++◌, Option, Some, None, IfSome, get_or, length}
use Rattle.std.specs.List.{list_any}
use Rattle.df_rules.specs.Rules.{Rules}
use Rattle.df_unit.specs.OwnState.{OwnState}
use Rattle.df_unit.specs.declared.entry.Entry.{Entry}
use Rattle.df_why.specs.code.Leads.{leads}
use Rattle.df_why.specs.declared.walk.Link.{Link}
use Rattle.df_why.specs.declared.walk.Wanted.{Wanted}

-- whether it is this number
abbrev pub points : Option ℕ → ℕ → Bool
points None k = false
points (Some n) k = n == k

-- whether the flag of a number is up
abbrev pub flag_at : List Bool → Option ℕ → Bool
flag_at flags None = false
flag_at flags (Some k) = get_or flags k false

-- whether the two are one number
abbrev pub same_number : Option ℕ → Option ℕ → Bool
same_number a None = false
same_number a (Some k) = points a k

-- the places that an entry wants
abbrev pub add_places : Link → ℕ → Bool
add_places link k = (link.is_there && (points link.first k || points link.made k)) || points link.next k

-- the unit whose earlier entries it wants
abbrev pub add_units : Link → ℕ → Bool
add_units link k = link.is_there && points link.actor k

-- an entry with these links that no journal has
abbrev pub blank : Link
blank = record { actor = None; is_there = false; event = None; next = None; made = None; first = None }

-- whether the entry is wanted
abbrev pub wants : Wanted → ℕ → Link → Bool
wants w place link = get_or w.places.items place false
    || (flag_at w.units.items link.actor || flag_at w.events.items link.event)

-- there is a flag for each number of the links
pub record IsWithin (w : Wanted) (link : Link) : Type 0 where
  pub actor : IfSome link.actor (λ k. k < length w.units.items)
  pub event : IfSome link.event (λ k. k < length w.events.items)
  pub next : IfSome link.next (λ k. k < length w.places.items)
  pub made : IfSome link.made (λ k. k < length w.places.items)
  pub first : IfSome link.first (λ k. k < length w.places.items)

pub record SameSizes (old new : Wanted) : Type 0 where
  pub places : length new.places.items ≡ length old.places.items
  pub units : length new.units.items ≡ length old.units.items
  pub events : length new.events.items ≡ length old.events.items

-- whether an entry leads to the one at a place
abbrev pub leads_to : Link → ℕ → Link → Bool
leads_to from p to = add_places from p
    || ((from.is_there && same_number from.actor to.actor) || same_number from.event to.event)

-- the places that the walk has after a number of steps from the last one, the last one first
abbrev pub walked : (ℕ → Link) → ℕ → ℕ → List ℕ
walked link last zero = []
walked link last (suc n) =
    let before = walked link last n in
    let p = last - n in
    if (p == last) || list_any (λ q. leads_to (link q) p (link p)) before then before ++ p ∷ [] else before

-- the links of the entry at a place
abbrev pub link_at : List Link → ℕ → Link
link_at links p = get_or links p blank

-- there are as many flags
pub record HasSizes (n units events : ℕ) (w : Wanted) : Type 0 where
  pub place_flags : length w.places.items ≡ n
  pub unit_flags : length w.units.items ≡ units
  pub event_flags : length w.events.items ≡ events

-- the numbers of an entry's links are below these counts
pub record Fits (places units events : ℕ) (link : Link) : Type 0 where
  pub actor : IfSome link.actor (λ k. k < units)
  pub event : IfSome link.event (λ k. k < events)
  pub next : IfSome link.next (λ k. k < places)
  pub made : IfSome link.made (λ k. k < places)
  pub first : IfSome link.first (λ k. k < places)

abbrev pub AreWithin : ℕ → ℕ → List Link → Type 0
AreWithin units events links =
    (p : ℕ) → p < length links → Fits (length links) units events (link_at links p)

-- wanted is the last place, and what the entries at these places want
pub record StandsFor (link : ℕ → Link) (last : ℕ) (picked : List ℕ) (w : Wanted) : Type 0 where
  pub places : (k : ℕ) → get_or w.places.items k false
      ≡ ((k == last) || list_any (λ q. add_places (link q) k) picked)
  pub units : (k : ℕ) → get_or w.units.items k false ≡ list_any (λ q. add_units (link q) k) picked
  pub events : (k : ℕ) → get_or w.events.items k false
      ≡ list_any (λ q. points (link q).event k) picked

-- the links of a journal's first entries tell which of them leads to which
abbrev pub IsKnown : Rules → List OwnState → List Link → List Entry → Type 0
IsKnown R s links j = (newer middle older : List Entry) (from to : Entry) →
    j ≡ newer ++ from ∷ (middle ++ to ∷ older) → length (middle ++ to ∷ older) < length links →
    leads R s (middle ++ to ∷ older) from older to ≡ leads_to
    (link_at links (length (middle ++ to ∷ older))) (length older) (link_at links (length older))
