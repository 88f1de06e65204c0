-- What places of handles show.
use Rattle.std.specs.Prelude.{ℕ, Bool, true, false, List, [], ◌∷◌, ◌++◌, Option, None, map}
use Rattle.df_part.specs.declared.part.Part.{Part}
use Rattle.df_unit.specs.declared.handle.Handle.{Handle}
use Rattle.df_unit.specs.declared.name.EventName.{EventName}
use Rattle.df_unit.specs.declared.name.UnitName.{UnitName}
use Rattle.df_handles.specs.declared.slot.Slot.{Slot}

-- what is kept, where the place is open
abbrev pub shown_if : Bool → Option Handle → Option Handle
shown_if true kept = kept
shown_if false kept = None

-- the open handle of a place
abbrev pub shown : Slot → Option Handle
shown slot = shown_if slot.is_open slot.kept

-- the handles of places
abbrev pub all_shown : List Slot → List (Option Handle)
all_shown slots = map shown slots

-- a unit's event of this number
abbrev pub event_of : UnitName → ℕ → EventName
event_of unit number = record { unit = unit; number = number }

-- a handle with nothing named and nothing drafted
abbrev pub begun : Bool → EventName → List Part → Handle
begun is_view event seen =
    record { is_view = is_view; event = event; seen = seen; named = []; drafted = [] }

-- the handle with one more drafted part
abbrev pub drafted_in : Part → Handle → Handle
drafted_in part d = record d { drafted = d.drafted ++ part ∷ [] }
