-- What an index knows.
use Rattle.std.specs.Prelude.{ℕ, Bool, List, [], Option, slice_index_or, refl}
use Rattle.std.specs.Coded.{Coded, code_by, coded×, coded_ℕ, coded_list, coded_option}
use Rattle.df_label.specs.declared.label.Label.{Label}
use Rattle.df_part.specs.declared.edit.Spot.{Spot}
use Rattle.df_part.specs.declared.part.Part.{Part}
use Rattle.df_index.specs.Due.{IsDue, Pair, has_pair}
use Rattle.df_index.specs.declared.subscription.Subscription.{Subscription}

-- the subscriptions in the order of their enrolment; for each event, by its place, the pairs to
-- which it was handed; and the event and the receivers that wait to be booked
pub record IndexState (F : Type 0) : Type 0 where
  pub enrolled : List (Subscription F)
  pub handed : List (List Pair)
  pub ready : Option (ℕ × List Pair)

-- pairs are stored as pairs of numbers
abbrev pub pairs_code : Coded (List Pair)
pairs_code = coded_list (coded× coded_ℕ coded_ℕ)

-- a subscription is stored as the tuple of its fields
abbrev pub subscription_code : {F : Type 0} → Coded F → Coded (Subscription F)
subscription_code {F} code =
    code_by (ℕ × (ℕ × F)) (coded× coded_ℕ (coded× coded_ℕ code))
    (λ s. (s.unit, (s.sub, s.filter)))
    (λ p. record { unit = p.0; sub = p.1.0; filter = p.1.1 })
    (λ _. refl)

-- an index is stored as the tuple of its fields
abbrev pub index_code : {F : Type 0} → Coded F → Coded (IndexState F)
index_code {F} code =
    code_by (List (Subscription F) × (List (List Pair) × Option (ℕ × List Pair)))
    (coded× (coded_list (subscription_code code))
    (coded× (coded_list pairs_code) (coded_option (coded× coded_ℕ pairs_code))))
    (λ x. (x.enrolled, (x.handed, x.ready)))
    (λ p. record { enrolled = p.0; handed = p.1.0; ready = p.1.1 })
    (λ _. refl)

-- the pairs to which an event was handed
abbrev pub handed_at : List (List Pair) → ℕ → List Pair
handed_at handed event = slice_index_or handed event []

-- whether an event was handed to a subscription
abbrev pub was_handed : List (List Pair) → ℕ → Pair → Bool
was_handed handed event p = has_pair (handed_at handed event) p

-- the pair is that of a subscription to which an event is to be handed at a commit with this edit,
-- where these are the labels of the units, and the event then has these contents
abbrev pub IsReceiver : {F : Type 0} → (F → List Part → Bool) → List Label → IndexState F → ℕ
    → List Part → List Spot × List Part → Pair → Type 0
IsReceiver matches labels x event contents edit p =
    IsDue matches labels (handed_at x.handed event) contents edit x.enrolled p
