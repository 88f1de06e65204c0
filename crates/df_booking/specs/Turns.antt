-- The turn of a unit: its local calls, and then the one call that follows them.
use Rattle.std.specs.Prelude.{ℕ, zero, suc, Bool, false, if◌then◌else◌, List, Option, Some, None}
use Rattle.df_machine.specs.Journal.{State, appended, has_delivery_in}
use Rattle.df_rules.specs.Follows.{Brain, Calls, Wait, Want}
use Rattle.df_unit.specs.declared.call.Call.TheVariants.{Get}
use Rattle.df_unit.specs.declared.name.UnitName.{UnitName}
use Rattle.df_booking.specs.CrewState.{CrewState, want_in}
use Rattle.df_turn.specs.Locally.{most_local, wants_local}

abbrev pub is_local_want : Option Want → Bool
is_local_want None = false
is_local_want (Some w) = wants_local w

-- the journal with what a unit wants: the call, or a get where it waits and a delivery is left; who
-- doesn't exist does nothing
abbrev pub asked_by : State → UnitName → Option Want → State
asked_by core u None = core
asked_by core u (Some (Calls c)) = appended u c core
asked_by core u (Some Wait) = if has_delivery_in core u then appended u Get core else core

-- a unit was asked for its next call
abbrev pub asked : {B : Type 0} → Brain B → List B → UnitName → State → State
asked brain bs u core = asked_by core u (want_in brain bs core u)

-- a unit makes the local calls that it wants, at most so many; where it makes fewer, it is then
-- asked once more
abbrev pub turn_of : {B : Type 0} → Brain B → List B → ℕ → UnitName → State → State
turn_of brain bs zero u core = core
turn_of brain bs (suc n) u core = if is_local_want (want_in brain bs core u)
    then turn_of brain bs n u (asked brain bs u core) else asked brain bs u core

-- a unit takes a turn
abbrev pub turned : {B : Type 0} → Brain B → UnitName → CrewState B → CrewState B
turned brain u crew =
    record crew { core = turn_of brain crew.brains most_local u crew.core }
