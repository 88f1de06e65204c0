-- What a crew is, and each unit's brain in it.
use Rattle.std.specs.Prelude.{List, Option, Some, None, refl}
use Rattle.std.specs.Coded.{Coded, code_by, coded×, coded_list}
use Rattle.df_booking.specs.Minds.{mind_of}
use Rattle.df_machine.specs.Journal.{State, firsts}
use Rattle.df_rules.specs.Follows.{Brain, Last, Want}
use Rattle.df_rules.specs.Own.{own}
use Rattle.df_rules.specs.Start.{rows}
use Rattle.df_start.specs.contracts.start.Start as started
use Rattle.df_unit.specs.OwnState.{OwnState}
use Rattle.df_unit.specs.contracts.entry.Entry as entry
use Rattle.df_unit.specs.declared.name.UnitName.{UnitName}

-- a crew: a machine's start and its journal, and the brains with which the roots began
pub record CrewState (B : Type 0) : Type 0 where
  pub core : State
  pub brains : List B

-- a crew is stored as its parts
abbrev pub crew_code : {B : Type 0} → Coded B → Coded (CrewState B)
crew_code {B} code =
    code_by (State × List B)
    (coded× (coded× started.the_row.coded (coded_list entry.the_row.coded)) (coded_list code))
    (λ c. (c.core, c.brains))
    (λ p. record { core = p.0; brains = p.1 })
    (λ _. refl)

-- a unit's brain by the journal, if it has one
abbrev pub mind_in : {B : Type 0} → Brain B → List B → State → UnitName → Option (B × Last)
mind_in brain bs core u = mind_of brain (firsts core.0) bs core.1 u

-- what a unit with this own state and brain wants, if it exists
abbrev pub want_by : {B : Type 0} → Brain B → Option OwnState → Option (B × Last) → Option Want
want_by brain None m = None
want_by brain (Some st) None = None
want_by brain (Some st) (Some m) = Some (brain.next m.0 m.1).0

-- what a unit wants by the journal
abbrev pub want_in : {B : Type 0} → Brain B → List B → State → UnitName → Option Want
want_in brain bs core u =
    want_by brain (own rows (firsts core.0) core.1 u) (mind_in brain bs core u)
