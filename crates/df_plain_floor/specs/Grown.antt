-- How turns lead from one crew to another.
use Rattle.std.specs.Prelude.{◌≡◌, ◌<◌, ℕ, Bool, true, false, List, is_some, length}
use Rattle.df_booking.specs.CrewState.{CrewState, mind_in}
use Rattle.df_machine.specs.Journal.{local_of}
use Rattle.df_plain_floor.specs.PlainRun.{is_full, take_turns}
use Rattle.df_rules.specs.Follows.{Brain}
use Rattle.df_unit.specs.declared.name.UnitName.{UnitName}

-- turns of some units lead from the one to the other
pub record AreTurns {B : Type 0} (brain : Brain B) (max : ℕ) (old new : CrewState B) :
    Type 0 where
  pub units : List UnitName
  pub turns : new ≡ take_turns brain max units old

-- a step that appended something did so below the limit; else nothing has changed
abbrev pub IsAppending : {B : Type 0} → ℕ → Bool → CrewState B → CrewState B → Type 0
IsAppending max true old new = (is_full max old ≡ false) × (length old.core.1 < length new.core.1)
IsAppending max false old new = new ≡ old

-- where the run goes on, the unit has a brain, if it exists
abbrev pub HasBrain : {B : Type 0} → Brain B → ℕ → CrewState B → UnitName → Type 0
HasBrain brain max crew u = is_full max crew ≡ false → is_some (local_of crew.core u) ≡ true →
    is_some (mind_in brain crew.brains crew.core u) ≡ true
