-- What a crew keeps of its units' brains, and how it agrees with the journal.
use Rattle.std.specs.Prelude.{◌≡◌, ℕ, true, List, [], Option, Some, None, length}
use Rattle.df_booking.specs.CrewState.{mind_in}
use Rattle.df_kept.specs.Kept.{KeptState, kept_at}
use Rattle.df_machine.specs.Journal.{State, firsts}
use Rattle.df_rules.specs.Follows.{Brain, Follows, Last, began_with, replies_of}
use Rattle.df_rules.specs.Legal.{IsUnaided, Legal}
use Rattle.df_rules.specs.Own.{exists, fixed}
use Rattle.df_rules.specs.Start.{rows}
use Rattle.df_unit.specs.OwnState.{Fixed}
use Rattle.df_unit.specs.declared.name.UnitName.{UnitName}
use Rattle.df_unit.specs.declared.name.UnitName.TheVariants.{Managed}

-- the journal is one of a start and brains: legal, nothing was emitted into it, and each unit makes
-- the calls that its brain wants
pub record IsFollowed {B : Type 0} (brain : Brain B) (bs : List B) (core : State) : Type 0 where
  pub legal : Legal rows (firsts core.0) core.1
  pub unaided : IsUnaided core.1
  pub follows : Follows brain rows (firsts core.0) bs core.1

-- what is kept of a unit is its brain by the journal; of a unit that was told something it is kept
abbrev pub IsMind : {B : Type 0} → Brain B → List B → State → UnitName → Option (B × Last) → Type 0
IsMind brain bs core u None = replies_of u core.1 ≡ []
IsMind brain bs core u (Some m) = (exists rows (firsts core.0) core.1 u ≡ true)
    × (mind_in brain bs core u ≡ Some m)

-- the name under which the brain of the instances of a subscription is kept
abbrev pub seed_name : List ℕ → ℕ → UnitName
seed_name o n = Managed o n []

-- the tables agree with the journal
pub record IsManned {B : Type 0} (brain : Brain B) (bs : List B) (kept : KeptState (B × Last))
    (begun : KeptState B) (core : State) : Type 0 where
  pub followed : IsFollowed brain bs core
  pub minds : (u : UnitName) → IsMind brain bs core u (kept_at u kept)
  pub seeds : (o : List ℕ) (n : ℕ) (f : Fixed) → fixed rows (firsts core.0) core.1 o n ≡ Some f →
      kept_at (seed_name o n) begun
      ≡ began_with brain rows (firsts core.0) bs core.1 (seed_name o n)
  pub rooted : length bs ≡ length core.0
