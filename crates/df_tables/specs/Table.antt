-- The tables of units and of events, and what an entry makes of them.
use Rattle.std.specs.Prelude.{ℕ, ◌+◌, Option, Some, None, List, [], ◌∷◌, if◌then◌else◌, drop, map}
use Rattle.df_label.specs.Ascending.{IsAscending}
use Rattle.df_label.specs.declared.label.Label.{Label}
use Rattle.df_label.specs.declared.privilege.Privilege.{Privilege}
use Rattle.df_local.specs.Locally.{root_at}
use Rattle.df_part.specs.declared.part.Part.{Part}
use Rattle.df_rules.specs.Rules.{Rules}
use Rattle.df_unit.specs.Name.{same, same_event}
use Rattle.df_unit.specs.UnitOrder.{unit_cmp}
use Rattle.df_unit.specs.declared.call.Call.{Call}
use Rattle.df_unit.specs.declared.entry.Effect.{Effect}
use Rattle.df_unit.specs.declared.name.EventName.{EventName}
use Rattle.df_unit.specs.declared.name.UnitName.{UnitName}
use Rattle.df_unit.specs.declared.reply.Reply.{Reply}
use Rattle.df_tables.specs.Events.{place_by}
use Rattle.df_tables.specs.Line.{LineState}
use Rattle.df_tables.specs.declared.events.EventRow.{EventRow}
use Rattle.df_tables.specs.declared.units.Unit.{Unit}

-- the row of a unit
abbrev pub find : UnitName → List Unit → Option Unit
find n [] = None
find n (u ∷ us) = if same u.local.unit n then Some u else find n us

-- the units that have a row
abbrev pub names_of : List Unit → List UnitName
names_of us = map (λ u. u.local.unit) us

-- the rows stand in the order of units, one for each unit
abbrev pub IsInOrder : List Unit → Type 0
IsInOrder us = IsAscending unit_cmp (names_of us)

-- the place of a unit's row
abbrev pub place_of : UnitName → List Unit → Option ℕ
place_of n us = place_by (λ u. same u.local.unit n) us

-- the parts of an event; none where it has no row
abbrev pub parts_of : EventName → List EventRow → List Part
parts_of ev [] = []
parts_of ev (r ∷ rs) = if same_event r.event ev then r.contents else parts_of ev rs

-- the table with the row of a unit changed
abbrev pub moved_at : UnitName → (Unit → Unit) → List Unit → List Unit
moved_at a g [] = []
moved_at a g (u ∷ us) = if same u.local.unit a then g u ∷ us else u ∷ moved_at a g us

-- the line without the delivery that is given
abbrev pub taken : Effect → LineState → LineState
taken Effect.Nothing l = l
taken (Effect.Commit c) l = l
taken (Effect.Given d) l = record l { left = drop 1 l.left }

-- the actor's row after its entry
abbrev pub moved_row : Rules → Call → Reply → Effect → Unit → Unit
moved_row R c r f u = record {
  local = record { unit = u.local.unit; own = R.after u.local.unit u.local.own c r f };
  line = taken f u.line;
}

-- a root's row as it begins
abbrev pub first_row : ℕ → Label × List Privilege → Unit
first_row k r = record {
  local = root_at k r.0 r.1;
  line = record { left = []; staged = [] };
}

-- the rows of roots as they begin, with the numbers from k
abbrev pub rows_from : ℕ → List (Label × List Privilege) → List Unit
rows_from k [] = []
rows_from k (r ∷ rs) = first_row k r ∷ rows_from (k + 1) rs
