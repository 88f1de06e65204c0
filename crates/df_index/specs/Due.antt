-- To which subscriptions an event is to be handed at a commit.
use Rattle.std.specs.Prelude.{◌≡◌, ℕ, Bool, true, false, not, ◌&&◌, ◌==◌, if◌then◌else◌, List, [], ◌∷◌, Option, Some, None, slice_get}
use Rattle.std.specs.List.{Contains, flat_map, list_any}
use Rattle.std.specs.Ordering.{nat_cmp, ordering_then}
use Rattle.std.specs.declared.cmp.Ordering.{Ordering}
use Rattle.df_label.specs.declared.label.Label.{Label}
use Rattle.df_part.specs.Part.{cut, readable}
use Rattle.df_part.specs.declared.edit.Spot.{Spot}
use Rattle.df_part.specs.declared.part.Part.{Part}
use Rattle.df_index.specs.declared.subscription.Subscription.{Subscription}

-- a subscription of a unit: the unit's place, and the number that the unit gave it
abbrev pub Pair : Type 0
Pair = ℕ × ℕ

-- pairs go by unit, then by number
abbrev pub pair_cmp : Pair → Pair → Ordering
pair_cmp p q = ordering_then (nat_cmp p.0 q.0) (nat_cmp p.1 q.1)

-- whether the commit adds a part that is readable at the label
abbrev pub adds_readable : Label → List Spot × List Part → Bool
adds_readable at edit = list_any (readable at) edit.1

-- whether this pair is among them
abbrev pub has_pair : List Pair → Pair → Bool
has_pair pairs p = list_any (λ q. (q.0 == p.0) && (q.1 == p.1)) pairs

-- the pair of a subscription
abbrev pub pair_of : {F : Type 0} → Subscription F → Pair
pair_of s = (s.unit, s.sub)

-- whether an event, which was handed to these pairs, is to be handed to a subscription of a unit
-- with this label, where the commit makes this edit and the event then has these contents: the edit
-- adds a part that the unit may read, the filter matches those of the contents that it may read,
-- and the event was not handed to this subscription before
abbrev pub is_due_at : {F : Type 0} → (F → List Part → Bool) → List Pair → List Part
    → List Spot × List Part → Option Label → Subscription F → Bool
is_due_at matches handed contents edit None s = false
is_due_at matches handed contents edit (Some at) s =
    adds_readable at edit
    && (matches s.filter (cut at contents) && not (has_pair handed (pair_of s)))

-- the same, where these are the labels of the units
abbrev pub is_due : {F : Type 0} → (F → List Part → Bool) → List Label → List Pair → List Part
    → List Spot × List Part → Subscription F → Bool
is_due matches labels handed contents edit s =
    is_due_at matches handed contents edit (slice_get labels s.unit) s

-- one of the subscriptions has this pair, and the event is to be handed to it
pub record IsDue {F : Type 0} (matches : F → List Part → Bool) (labels : List Label)
    (handed : List Pair) (contents : List Part) (edit : List Spot × List Part)
    (subscriptions : List (Subscription F)) (p : Pair) : Type 0 where
  pub subscription : Subscription F
  pub enrolled : Contains subscriptions subscription
  pub pair : pair_of subscription ≡ p
  pub due : is_due matches labels handed contents edit subscription ≡ true

-- the pair of a subscription, if there is one and it passes the test
abbrev pub pair_where : {F : Type 0} → (Subscription F → Bool) → Option (Subscription F) → List Pair
pair_where test None = []
pair_where test (Some s) = if test s then pair_of s ∷ [] else []

-- the pairs of those of the subscriptions at these places that pass the test
abbrev pub pairs_at : {F : Type 0} → (Subscription F → Bool) → List (Subscription F) → List ℕ
    → List Pair
pairs_at test subscriptions places =
    flat_map (λ k. pair_where test (slice_get subscriptions k)) places
