-- In which journals the laws hold, and of which units.
use Rattle.std.specs.Prelude.{◌≡◌, List, Some}
use Rattle.df_label.specs.declared.label.Label.{Label}
use Rattle.df_label.specs.declared.privilege.Privilege.{Privilege}
use Rattle.df_rules.specs.Legal.{Legal}
use Rattle.df_rules.specs.Own.{own}
use Rattle.df_rules.specs.Start.{rows, roots}
use Rattle.df_unit.specs.OwnState.{OwnState}
use Rattle.df_unit.specs.declared.entry.Entry.{Entry}
use Rattle.df_unit.specs.declared.name.UnitName.{UnitName}

-- the roots of a start, each with its label and privileges
abbrev pub Roots : Type 0
Roots = List (Label × List Privilege)

-- so it is in each journal from each start
abbrev pub InEach : (List OwnState → List Entry → Type 0) → Type 0
InEach P = (start : Roots) (past : List Entry) → P (roots start) past

-- so it is in each legal journal from each start
abbrev pub InEachLegal : (List OwnState → List Entry → Type 0) → Type 0
InEachLegal P = (start : Roots) (past : List Entry) → Legal rows (roots start) past →
    P (roots start) past

-- so it is of each unit that exists then, with its own state
abbrev pub OfEach : List OwnState → List Entry → (UnitName → OwnState → Type 0) → Type 0
OfEach s past P = (u : UnitName) (st : OwnState) → own rows s past u ≡ Some st → P u st
