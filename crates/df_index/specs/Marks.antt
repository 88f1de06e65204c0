-- How the pairs to which events were handed are kept.
use Rattle.std.specs.Prelude.{ℕ, ◌+◌, ◌<◌, ◌≤◌, ⊤, List, length, Option, Some, None, refl}
use Rattle.std.specs.Coded.{Coded, code_by, coded×, coded_ℕ, coded_list, coded_option}
use Rattle.std.specs.List.Sorted.{IsSorted}
use Rattle.df_index.specs.Due.{Pair, pair_cmp}
use Rattle.df_index.specs.IndexState.{handed_at, pairs_code}

-- for each event, by its place, the pairs to which it was handed; and the event and the receivers
-- that wait to be booked
pub record MarksState : Type 0 where
  pub handed : List (List Pair)
  pub ready : Option (ℕ × List Pair)

-- they are stored as the two of them
abbrev pub marks_code : Coded MarksState
marks_code =
    code_by (List (List Pair) × Option (ℕ × List Pair))
    (coded× (coded_list pairs_code) (coded_option (coded× coded_ℕ pairs_code)))
    (λ m. (m.handed, m.ready))
    (λ p. record { handed = p.0; ready = p.1 })
    (λ _. refl)

-- the pairs are the receivers of the event, if there is one
abbrev pub ready_of : Option ℕ → List Pair → Option (ℕ × List Pair)
ready_of None pairs = None
ready_of (Some event) pairs = Some (event, pairs)

-- where there are receivers, there is room for a row of the event, and behind the receivers for the
-- pairs of the event
abbrev pub HasRoom : List (List Pair) → ℕ → Option ℕ → ℕ → ℕ → Type 0
HasRoom handed rows None len room = ⊤
HasRoom handed rows (Some event) len room =
    0 < len → (event < rows) × (len + length (handed_at handed event) ≤ room)

-- the pairs of each event ascend, and what is ready has its room
pub record IsMarks (handed : List (List Pair)) (rows : ℕ) (event : Option ℕ) (len room : ℕ)
    : Type 0 where
  pub ascending : (e : ℕ) → IsSorted pair_cmp (handed_at handed e)
  pub ready : HasRoom handed rows event len room
