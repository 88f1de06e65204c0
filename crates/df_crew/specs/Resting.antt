-- When a unit of a crew is at rest.
use Rattle.std.specs.Prelude.{◌≡◌, Some}
use Rattle.df_booking.specs.CrewState.{CrewState}
use Rattle.df_machine.specs.Journal.{firsts}
use Rattle.df_rules.specs.Follows.{Brain, IsAtRest}
use Rattle.df_rules.specs.Own.{own}
use Rattle.df_rules.specs.Start.{rows}
use Rattle.df_unit.specs.OwnState.{OwnState}
use Rattle.df_unit.specs.declared.name.UnitName.{UnitName}

-- the unit, if it exists, waits, and no delivery is left to it
abbrev pub IsResting : {B : Type 0} → Brain B → CrewState B → UnitName → Type 0
IsResting brain crew u = (st : OwnState) → own rows (firsts crew.core.0) crew.core.1 u ≡ Some st →
    (x : _) × IsAtRest brain rows (firsts crew.core.0) crew.brains crew.core.1 u st x
