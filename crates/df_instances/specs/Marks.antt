-- Which instances events were handed to.
use Rattle.std.specs.Prelude.{ℕ, Bool, false, ◌&&◌, ◌==◌, List, [], Option, Some, None, slice_index_or, refl}
use Rattle.std.specs.Coded.{Coded, code_by, coded×, coded_ℕ, coded_list, coded_option}
use Rattle.std.specs.List.{list_any}

-- for each event, by its place, the places of the instances to which it was handed; and the event
-- and the instances that wait to be booked
pub record MarksState : Type 0 where
  pub handed : List (List ℕ)
  pub ready : Option (ℕ × List ℕ)

-- they are stored as the two of them
abbrev pub marks_code : Coded MarksState
marks_code =
    code_by (List (List ℕ) × Option (ℕ × List ℕ))
    (coded× (coded_list (coded_list coded_ℕ)) (coded_option (coded× coded_ℕ (coded_list coded_ℕ))))
    (λ m. (m.handed, m.ready))
    (λ p. record { handed = p.0; ready = p.1 })
    (λ _. refl)

-- whether the place is among these
abbrev pub has_place : List ℕ → ℕ → Bool
has_place places k = list_any (λ j. j == k) places

-- the instances to which an event was handed
abbrev pub handed_at : List (List ℕ) → ℕ → List ℕ
handed_at handed event = slice_index_or handed event []

-- whether an event was handed to an instance
abbrev pub was_handed : List (List ℕ) → ℕ → ℕ → Bool
was_handed handed event k = has_place (handed_at handed event) k

-- whether the event waits to be marked as handed to the instance
abbrev pub is_ready : Option (ℕ × List ℕ) → ℕ → ℕ → Bool
is_ready None event k = false
is_ready (Some r) event k = (event == r.0) && has_place r.1 k
