-- Handles: the drafts and views that a unit has open. A handle's number is its place in the list.
use Rattle.std.specs.Prelude.{ℕ, ◌+◌, Bool, true, false, List, [], ◌∷◌, Option, Some, None, slice_get, slice_set, nat_le}
use Rattle.std.specs.Option.{option_flatten}
use Rattle.df_part.specs.declared.part.Part.{Part}
use Rattle.df_unit.specs.declared.handle.Handle.{Handle}
use Rattle.df_unit.specs.declared.name.EventName.{EventName}
use Rattle.df_unit.specs.Limits.{most_handles}

-- an empty draft of an event
abbrev pub draft_of : EventName → List Part → Handle
draft_of event parts =
    record { is_view = false; event = event; seen = []; named = []; drafted = parts }

-- a view of an event with these parts
abbrev pub view_of : EventName → List Part → Handle
view_of event parts =
    record { is_view = true; event = event; seen = parts; named = []; drafted = [] }

-- how many handles are open
abbrev pub open_count : List (Option Handle) → ℕ
open_count [] = 0
open_count (None ∷ hs) = open_count hs
open_count (Some h ∷ hs) = 1 + open_count hs

abbrev pub is_full : List (Option Handle) → Bool
is_full hs = nat_le most_handles (open_count hs)

-- the least number that isn't open
abbrev pub least_free : List (Option Handle) → ℕ
least_free [] = 0
least_free (None ∷ hs) = 0
least_free (Some h ∷ hs) = 1 + least_free hs

-- the open handle of a number
abbrev pub handle_at : List (Option Handle) → ℕ → Option Handle
handle_at hs h = option_flatten (slice_get hs h)

-- the handles with one more, at the least free number
abbrev pub opened : Handle → List (Option Handle) → List (Option Handle)
opened d [] = Some d ∷ []
opened d (None ∷ hs) = Some d ∷ hs
opened d (Some h ∷ hs) = Some h ∷ opened d hs

-- the handles without this number
abbrev pub closed : List (Option Handle) → ℕ → List (Option Handle)
closed hs h = slice_set hs h None

abbrev pub replaced : List (Option Handle) → ℕ → (Handle → Handle) → Option Handle →
    List (Option Handle)
replaced hs h f None = hs
replaced hs h f (Some d) = slice_set hs h (Some (f d))

-- the handles with one of them changed
abbrev pub changed_at : List (Option Handle) → ℕ → (Handle → Handle) → List (Option Handle)
changed_at hs h f = replaced hs h f (handle_at hs h)
