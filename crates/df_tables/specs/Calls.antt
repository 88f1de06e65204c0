-- Which instances a commit is handed to, by the tables.
use Rattle.std.specs.Prelude.{◌≡◌, ℕ, ◌+◌, if◌then◌else◌, is_none, List, [], ◌∷◌, ◌++◌, map, Option, Some, None, option_to_list, slice_get}
use Rattle.std.specs.List.{All, flat_map}
use Rattle.std.specs.List.Sorted.{IsStrictlySortedBy}
use Rattle.df_index.specs.Due.{Pair}
use Rattle.df_instances.specs.Chosen.{AreChosen, instance_cmp}
use Rattle.df_instances.specs.Marks as marks
use Rattle.df_instances.specs.declared.instances.Instance.{Instance}
use Rattle.df_instances.specs.declared.subscription.ManagedSubscription.{ManagedSubscription}
use Rattle.df_local.specs.Births.{record_of}
use Rattle.df_part.specs.Contents.{apply}
use Rattle.df_part.specs.declared.part.Part.{Part}
use Rattle.df_unit.specs.Beginnings.{readable_at}
use Rattle.df_unit.specs.declared.commit.Commit.{Commit}
use Rattle.df_unit.specs.declared.name.EventName.{EventName}
use Rattle.df_unit.specs.declared.name.UnitName.{UnitName}
use Rattle.df_unit.specs.declared.name.UnitName.TheVariants.{Managed}
use Rattle.df_tables.specs.Births.{IsNewborn, instance_row, rows_in}
use Rattle.df_tables.specs.Hand.{given_to}
use Rattle.df_tables.specs.Table.{names_of, place_of}
use Rattle.df_tables.specs.declared.calling.Called.{Called}
use Rattle.df_tables.specs.declared.units.Unit.{Unit}

-- the instance at a place, if there is one, by the number of its subscription, unless the event was
-- handed to it
abbrev pub pair_at : List (List ℕ) → ℕ → ℕ → Option ℕ → List Pair
pair_at handed event n None = []
pair_at handed event n (Some q) = if marks.was_handed handed event q then [] else (q, n) ∷ []

-- the instance of contamination t of the subscription, if there is one, where it has a row and is
-- to be handed the event
abbrev pub pair_of : List Unit → List (List ℕ) → ℕ → Option ManagedSubscription → List (List ℕ) →
    List Pair
pair_of us handed event None t = []
pair_of us handed event (Some m) t =
    pair_at handed event m.sub (place_of (Managed m.owner m.sub t) us)

-- the row of the instance of contamination t of a subscription, with the event as its first
-- delivery
abbrev pub born_instance : EventName → List Part → ManagedSubscription → List (List ℕ) → Unit
born_instance event after m t = instance_row m.owner m.sub (record_of m.fixed) t
    (given_to event after (readable_at (record_of m.fixed) t) (0, m.sub))

-- that row, where there is such a subscription and the instance has none
abbrev pub birth_of : List Unit → EventName → List Part → Option ManagedSubscription →
    List (List ℕ) → List Unit
birth_of us event after None t = []
birth_of us event after (Some m) t = if is_none (place_of (Managed m.owner m.sub t) us)
    then born_instance event after m t ∷ [] else []

-- those of the instances that have a row and are to be handed the event
abbrev pub pairs_by : List Unit → List ManagedSubscription → List (List ℕ) → ℕ → List Instance →
    List Pair
pairs_by us managed handed event instances =
    flat_map (λ x. pair_of us handed event (slice_get managed x.place) x.s) instances

-- the rows of those that have none
abbrev pub births_by : List Unit → List ManagedSubscription → EventName → List Part →
    List Instance → List Unit
births_by us managed event after instances =
    flat_map (λ x. birth_of us event after (slice_get managed x.place) x.s) instances

-- the places of rows that stand behind n others
abbrev pub places_from : ℕ → List Unit → List ℕ
places_from n [] = []
places_from n (b ∷ bs) = n ∷ places_from (n + 1) bs

-- the places of those that are handed the event, where there are n rows
abbrev pub places_by : ℕ → List Pair → List Unit → List ℕ
places_by n pairs births = map (λ p. p.0) pairs ++ places_from n births

-- the unit of the row at a place, if there is one
abbrev pub name_at : List Unit → ℕ → List UnitName
name_at us q = names_of (option_to_list (slice_get us q))

-- the units of the rows at the places of receivers
abbrev pub names_at : List Unit → List Pair → List UnitName
names_at us ps = flat_map (λ p. name_at us p.0) ps

-- the pairs and the rows are those of the instances to which the choices of the commit give its
-- event, where the board has these rows, managed subscriptions and marks
pub record AreCalled (us : List Unit) (managed : List ManagedSubscription)
    (handed : List (List ℕ)) (c : Commit) (event : ℕ) (after : List Part) (called : Called)
    : Type 0 where
  pub instances : List Instance
  pub ascending : IsStrictlySortedBy instance_cmp instances
  pub chosen : (before : List Part) → after ≡ apply c.edit before →
      AreChosen managed before c.edit instances
  pub pairs : called.pairs.items ≡ pairs_by us managed handed event instances
  pub born : rows_in called.born.items ≡ births_by us managed c.event after instances
  pub newborn : All IsNewborn called.born.items
