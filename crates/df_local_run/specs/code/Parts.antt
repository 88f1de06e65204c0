-- A run of local calls by its parts.
use Rattle.std.specs.Prelude.{◌≡◌, ◌++◌, List, [], ◌∷◌, Option, Some, None}
use Rattle.df_local.specs.code.LocalState.{LocalState}
use Rattle.df_local_run.specs.RunState.{RunState}
use Rattle.df_local_run.specs.Runs.{LeadTo, local_entry, moved_by}
use Rattle.df_local_run.specs.declared.parts.RunParts.{RunParts}
use Rattle.df_unit.specs.declared.call.Call.{Call}
use Rattle.df_unit.specs.declared.entry.Entry.{Entry}

-- the unit as it is now: as it was, where it was not copied
abbrev pub present_of : LocalState → Option LocalState → LocalState
present_of base None = base
present_of base (Some present) = present

-- the run of these parts
abbrev pub state_of : RunParts → RunState
state_of p = record {
  base = p.base;
  present = present_of p.base p.present;
  entries = p.entries.items;
}

-- the entries lead from the unit as it was to the unit as it is, and there is none where it was
-- not copied
pub record IsRun (p : RunParts) : Type 0 where
  pub run : LeadTo p.entries.items p.base (present_of p.base p.present)
  pub copied : p.present ≡ None → p.entries.items ≡ []

-- the unit made the call, whose entry stands behind the others
abbrev pub IsCalled : Call → LocalState → LocalState → List Entry → List Entry → Type 0
IsCalled c old new es longer =
    (new ≡ moved_by old (local_entry old c)) × (longer ≡ es ++ local_entry old c ∷ [])
