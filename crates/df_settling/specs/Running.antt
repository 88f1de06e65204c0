-- The journal of a floor whose units are asked in turn.
use Rattle.std.specs.Prelude.{List, [], ◌∷◌, Option, Some, None}
use Rattle.df_config.specs.declared.config.Config.{Config}
use Rattle.df_floor.specs.Brains.{floor_brains}
use Rattle.df_floor_units.specs.Floor.{Mind}
use Rattle.df_rules.specs.Deliveries.{deliveries}
use Rattle.df_rules.specs.Follows.{Calls, Wait, Want, began_with, replies_of, wanted}
use Rattle.df_rules.specs.Legal.{answered, left}
use Rattle.df_rules.specs.Own.{own}
use Rattle.df_rules.specs.Start.{rows}
use Rattle.df_ticks.specs.declared.tick.Tick.{Tick}
use Rattle.df_unit.specs.OwnState.{OwnState}
use Rattle.df_unit.specs.declared.call.Call.{Call}
use Rattle.df_unit.specs.declared.commit.Given.{Given}
use Rattle.df_unit.specs.declared.entry.Entry.{Entry}
use Rattle.df_unit.specs.declared.name.UnitName.{UnitName}
use Rattle.df_settling.specs.Settling.{first_states, floor_brain}

-- the journal with a unit's call and its answer
abbrev pub with_call : Config → List Entry → UnitName → Call → List Entry
with_call c past u call = answered rows (first_states c) past u call ∷ past

-- the journal with a get, if a delivery is left
abbrev pub with_get : Config → List Entry → UnitName → List Given → List Entry
with_get c past u [] = past
with_get c past u (d ∷ ds) = with_call c past u Call.Get

-- the journal with what a unit wants
abbrev pub with_want : Config → List Entry → UnitName → OwnState → Want → List Entry
with_want c past u st (Calls call) = with_call c past u call
with_want c past u st Wait =
    with_get c past u (left st (deliveries rows (first_states c) past u))

-- the journal once a unit was asked; who doesn't exist does nothing
abbrev pub asked_of : Config → List Entry → UnitName → Option OwnState → Option Mind → List Entry
asked_of c past u (Some st) (Some x) =
    with_want c past u st (wanted floor_brain x (replies_of u past)).0
asked_of c past u (Some st) None = past
asked_of c past u None x = past

-- a unit is asked for its next call
abbrev pub asked : Config → List Tick → List Entry → UnitName → List Entry
asked c ticks past u = asked_of c past u (own rows (first_states c) past u)
    (began_with floor_brain rows (first_states c) (floor_brains c ticks) past u)

-- units are asked one after another, the first one first
abbrev pub run_of : Config → List Tick → List UnitName → List Entry → List Entry
run_of c ticks [] past = past
run_of c ticks (u ∷ us) past = run_of c ticks us (asked c ticks past u)
