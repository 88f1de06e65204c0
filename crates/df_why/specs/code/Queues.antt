-- What a machine keeps of units, as it goes over a journal.
use Rattle.std.specs.Prelude.{◌≡◌, ◌+◌, ◌<◌, ℕ, zero, suc, if◌then◌else◌, List, [], ◌∷◌, Option, Some, None, length, nat_lt, slice_get}
use Rattle.std.specs.BTreeMap.{BTreeMap, get}
use Rattle.std.specs.List.{list_any}
use Rattle.df_machine.specs.Journal.{State, firsts, left_in}
use Rattle.df_rules.specs.Deliveries.{deliveries}
use Rattle.df_rules.specs.Start.{rows}
use Rattle.df_unit.specs.Name.{same}
use Rattle.df_unit.specs.UnitOrder.{unit_cmp}
use Rattle.df_unit.specs.declared.entry.Entry.{Entry}
use Rattle.df_unit.specs.declared.name.UnitName.{UnitName}
use Rattle.df_why.specs.code.Arising.{QueueState, extended}
use Rattle.df_why.specs.code.Links.{nothing_found}
use Rattle.df_why.specs.declared.found.Found.{Found}
use Rattle.df_why.specs.declared.tracks.Track.{Track}

-- the element at a place changed
abbrev pub modify : {X : Type 0} → ℕ → (X → X) → List X → List X
modify k f [] = []
modify zero f (x ∷ xs) = f x ∷ xs
modify (suc k) f (x ∷ xs) = x ∷ modify k f xs

-- the queue with all deliveries of the unit; those that it lacked arose here
abbrev pub grown : State → UnitName → ℕ → QueueState → QueueState
grown core u here q = extended q (left_in core u) here

-- the queue of a unit, if it has a number, with all its deliveries
abbrev pub grown_at : State → UnitName → Option ℕ → ℕ → List QueueState → List QueueState
grown_at core u None here queues = queues
grown_at core u (Some k) here queues = modify k (grown core u here) queues

-- so the queues of all these units
abbrev pub all_grown : State → BTreeMap UnitName ℕ → List UnitName → ℕ → List QueueState →
    List QueueState
all_grown core units [] here queues = queues
all_grown core units (u ∷ us) here queues =
    all_grown core units us here (grown_at core u (get unit_cmp units u) here queues)

-- one more delivery was taken
abbrev pub taken_more : QueueState → QueueState
taken_more q = record q { taken = q.taken + 1 }

abbrev pub taken_by : Option ℕ → List QueueState → List QueueState
taken_by None queues = queues
taken_by (Some k) queues = modify k taken_more queues

-- what an entry with this track is handed was taken
abbrev pub taken_at : Track → List QueueState → List QueueState
taken_at t queues = if t.is_given then taken_by t.actor queues else queues

-- the unit of this number took fewer
abbrev pub IsTakenBelow : ℕ → Option ℕ → List QueueState → Type 0
IsTakenBelow most n queues = (k : ℕ) (q : QueueState) → n ≡ Some k → slice_get queues k ≡ Some q →
    q.taken < most

abbrev pub found_for : Option QueueState → Found
found_for None = nothing_found
found_for (Some q) = record {
  next = slice_get q.places q.taken;
  first = slice_get q.places 0;
}

abbrev pub found_in : List QueueState → Option ℕ → Found
found_in queues None = nothing_found
found_in queues (Some k) = found_for (slice_get queues k)

-- the units are those to which an entry brings a delivery
abbrev pub AreBrought : State → Entry → List UnitName → Type 0
AreBrought core e names = (u : UnitName) → list_any (λ n. same n u) names
    ≡ nat_lt (length (deliveries rows (firsts core.0) core.1 u))
    (length (deliveries rows (firsts core.0) (e ∷ core.1) u))

-- the queues after an entry at a place: what it is handed was taken, and what it brings arose there
pub record IsStepped (old new : State) (e : Entry) (units : BTreeMap UnitName ℕ) (t : Track)
    (here : ℕ) (before after : List QueueState) : Type 0 where
  pub names : List UnitName
  pub brought : AreBrought old e names
  pub queues : after ≡ all_grown new units names here (taken_at t before)
