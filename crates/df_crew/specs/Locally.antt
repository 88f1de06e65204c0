-- A turn as it begins in a crew.
use Rattle.std.specs.Prelude.{◌≡◌, false, List, Some}
use Rattle.df_booking.specs.CrewState.{mind_in}
use Rattle.df_crew.specs.declared.base.Base.{Base}
use Rattle.df_machine.specs.Journal.{State, local_of}
use Rattle.df_rules.specs.Follows.{Brain}
use Rattle.df_turn.specs.Locally.{TurnState}
use Rattle.df_unit.specs.declared.name.UnitName.{UnitName}

-- the turn is the unit's in this crew, and was not advanced
pub record IsBegun {B : Type 0} (brain : Brain B) (bs : List B) (core : State) (u : UnitName)
    (t : TurnState B) : Type 0 where
  pub unit : local_of core u ≡ Some t.unit
  pub mind : mind_in brain bs core u ≡ Some (t.state, t.last)
  pub is_new : t.is_ready ≡ false

-- this is the unit, and its brain, in this crew
pub record IsBase {B : Type 0} (brain : Brain B) (bs : List B) (core : State) (u : UnitName)
    (b : Base B) : Type 0 where
  pub unit : local_of core u ≡ Some b.unit
  pub mind : mind_in brain bs core u ≡ Some b.mind
