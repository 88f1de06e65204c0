-- How it is kept which instances events were handed to.
use Rattle.std.specs.Prelude.{ℕ, ◌+◌, ◌<◌, ◌≤◌, ⊤, List, length, Option, Some, None}
use Rattle.std.specs.List.Sorted.{IsSorted}
use Rattle.std.specs.Ordering.{nat_cmp}
use Rattle.df_instances.specs.Marks.{handed_at}

-- the places are those of the event, if there is one
abbrev pub ready_of : Option ℕ → List ℕ → Option (ℕ × List ℕ)
ready_of None places = None
ready_of (Some event) places = Some (event, places)

-- where instances wait, there is room for a row of the event, and behind what waits for the
-- instances of the event
abbrev pub HasRoom : List (List ℕ) → ℕ → Option ℕ → ℕ → ℕ → Type 0
HasRoom handed rows None len room = ⊤
HasRoom handed rows (Some event) len room =
    0 < len → (event < rows) × (len + length (handed_at handed event) ≤ room)

-- the instances of each event ascend, and what is ready has its room
pub record IsMarks (handed : List (List ℕ)) (rows : ℕ) (event : Option ℕ) (len room : ℕ)
    : Type 0 where
  pub ascending : (e : ℕ) → IsSorted nat_cmp (handed_at handed e)
  pub ready : HasRoom handed rows event len room
