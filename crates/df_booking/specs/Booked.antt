-- Which turns may be booked, and what is booked of one.
use Rattle.std.specs.Prelude.{◌≡◌, if◌then◌else◌, Some}
use Rattle.df_booking.specs.CrewState.{CrewState, mind_in}
use Rattle.df_booking.specs.Turns.{turned}
use Rattle.df_machine.specs.Journal.{local_of}
use Rattle.df_rules.specs.Follows.{Brain}
use Rattle.df_turn.specs.Locally.{TurnState}

-- the unit and its brain are as the turn began
pub record IsCurrent {B : Type 0} (brain : Brain B) (t : TurnState B) (crew : CrewState B) :
    Type 0 where
  pub unit : local_of crew.core t.unit.unit ≡ Some t.unit
  pub mind : mind_in brain crew.brains crew.core t.unit.unit ≡ Some (t.state, t.last)

-- a turn that was advanced was taken; one that wasn't has no entry
abbrev pub booked : {B : Type 0} → Brain B → TurnState B → CrewState B → CrewState B
booked brain t crew = if t.is_ready then turned brain t.unit.unit crew else crew
