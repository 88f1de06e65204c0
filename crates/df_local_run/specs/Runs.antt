-- Runs of local calls of one unit.
use Rattle.std.specs.Prelude.{◌≡◌, ◌++◌, Bool, true, List, [], ◌∷◌}
use Rattle.df_unit.specs.Rows.{after}
use Rattle.df_unit.specs.declared.call.Call.{Call}
use Rattle.df_unit.specs.declared.entry.Entry.{Entry}
use Rattle.df_unit.specs.declared.entry.Entry.TheVariants.{Done, Emitted}
use Rattle.df_local.specs.Locally.{is_alone, row_answer, with_own}
use Rattle.df_local.specs.code.LocalState.{LocalState}
use Rattle.df_local_run.specs.RunState.{RunState}

-- the calls that concern no other unit, which a unit makes of its own state alone
abbrev pub is_local : Call → Bool
is_local call = is_alone call

-- the entry is a local call of the unit, with the answer of its row
abbrev pub IsLocalEntry : LocalState → Entry → Type 0
IsLocalEntry l (Done a c r f) =
    (a ≡ l.unit) × (is_local c ≡ true) × (row_answer l [] c ≡ (r, f))
IsLocalEntry l (Emitted c) = ⊥

-- the unit after an entry of its own
abbrev pub moved_by : LocalState → Entry → LocalState
moved_by l (Done a c r f) = with_own l (after l.unit l.own c r f)
moved_by l (Emitted c) = l

-- the entries are local calls of the unit in turn, each with the answer of its row, and bring it
-- from the first state to the second
abbrev pub LeadTo : List Entry → LocalState → LocalState → Type 0
LeadTo [] base present = base ≡ present
LeadTo (e ∷ es) base present = IsLocalEntry base e × LeadTo es (moved_by base e) present

-- the entry of a local call, by its row
abbrev pub local_entry : LocalState → Call → Entry
local_entry l c = Done l.unit c (row_answer l [] c).0 (row_answer l [] c).1

-- the run with one call more
abbrev pub called : RunState → Call → RunState
called run c = record run {
  present = moved_by run.present (local_entry run.present c);
  entries = run.entries ++ local_entry run.present c ∷ [];
}
