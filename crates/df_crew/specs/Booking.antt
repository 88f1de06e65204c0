-- Why a turn was not booked.
use Rattle.std.specs.Prelude.{◌≡◌, ◌⊎◌, true, [], Some}
use Rattle.df_booking.specs.Booked.{IsCurrent}
use Rattle.df_booking.specs.CrewState.{CrewState}
use Rattle.df_crew.specs.declared.crew.BookCause.{BookCause}
use Rattle.df_crew.specs.declared.crew.BookCause.TheVariants.{NoMemory, Stale}
use Rattle.df_machine.specs.Journal.{local_of}
use Rattle.df_rules.specs.Follows.{Brain, replies_of}
use Rattle.df_turn.specs.Locally.{TurnState}
use Rattle.df_unit.specs.Rows.{is_instance}

-- the unit is as the turn began, and it is an instance that was told nothing yet: its brain is
-- found under a name for which memory is needed
pub record IsUntold {B : Type 0} (t : TurnState B) (crew : CrewState B) : Type 0 where
  pub unit : local_of crew.core t.unit.unit ≡ Some t.unit
  pub instance : is_instance t.unit.unit ≡ true
  pub untold : replies_of t.unit.unit crew.core.1 ≡ []

-- a turn is stale where it isn't current, and is else refused for want of memory; but want of
-- memory may also come before the brain of an instance that was told nothing yet is compared
abbrev pub IsRefused : {B : Type 0} → BookCause → Brain B → TurnState B → CrewState B → Type 0
IsRefused Stale brain t crew = ¬ IsCurrent brain t crew
IsRefused NoMemory brain t crew = IsCurrent brain t crew ⊎ IsUntold t crew
