-- Each unit's brain by a journal.
use Rattle.std.specs.Prelude.{List, Option}
use Rattle.std.specs.Option.{option_map}
use Rattle.df_rules.specs.Follows.{Brain, Last, began_with, last_of, replies_of, state_after}
use Rattle.df_rules.specs.Start.{rows}
use Rattle.df_unit.specs.OwnState.{OwnState}
use Rattle.df_unit.specs.declared.entry.Entry.{Entry}
use Rattle.df_unit.specs.declared.name.UnitName.{UnitName}

-- the brain of a unit that began in state x: the state in which the last `next` whose call was
-- booked left it, and what the following `next` is told
abbrev pub mind_from : {B : Type 0} → Brain B → List Entry → UnitName → B → B × Last
mind_from brain past u x =
    (state_after brain x (replies_of u past), last_of (replies_of u past))

-- a unit's brain, if it has one
abbrev pub mind_of : {B : Type 0} → Brain B → List OwnState → List B → List Entry → UnitName →
    Option (B × Last)
mind_of brain s bs past u = option_map (mind_from brain past u) (began_with brain rows s bs past u)
