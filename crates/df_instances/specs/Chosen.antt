-- To which instances of managed subscriptions a commit goes.
use Rattle.std.specs.Prelude.{◌≡◌, ℕ, Bool, true, false, ◌&&◌, ◌==◌, List, Option, Some, None, slice_get}
use Rattle.std.specs.List.{list_any}
use Rattle.std.specs.Ordering.{nat_cmp, ordering_then}
use Rattle.std.specs.declared.cmp.Ordering.{Ordering}
use Rattle.df_label.specs.TagSet.{is_subset, tag_set_cmp, tag_set_eq}
use Rattle.df_part.specs.Contents.{spared}
use Rattle.df_part.specs.declared.edit.Spot.{Spot}
use Rattle.df_part.specs.declared.part.Part.{Part}
use Rattle.df_rules.specs.Choices.{gives}
use Rattle.df_instances.specs.declared.instances.Instance.{Instance}
use Rattle.df_instances.specs.declared.subscription.ManagedSubscription.{ManagedSubscription}

-- whether some choice of old and added parts for the subscription, if there is one, gives t
abbrev pub gives_at : Option ManagedSubscription → List (List ℕ) → List Part → List Part → Bool
gives_at None t old added = false
gives_at (Some m) t old added =
    gives m.fixed.filter m.fixed.input_integrity t m.fixed.base false old added

-- whether the instance of contamination t of the subscription at place k is among these
abbrev pub has_instance : List Instance → ℕ → List (List ℕ) → Bool
has_instance instances k t = list_any (λ x. (x.place == k) && tag_set_eq x.s t) instances

-- instances go by the place of their subscription, then by their contamination
abbrev pub instance_cmp : Instance → Instance → Ordering
instance_cmp x y = ordering_then (nat_cmp x.place y.place) (tag_set_cmp x.s y.s)

-- these are the instances that the choices give at the commit of the edit, on an event that has
-- these parts before it
abbrev pub AreChosen : List ManagedSubscription → List Part → List Spot × List Part →
    List Instance → Type 0
AreChosen managed before edit instances = (k : ℕ) (t : List (List ℕ)) →
    has_instance instances k t
    ≡ gives_at (slice_get managed k) t (spared edit.0 before) edit.1

-- the instance is one of a subscription, and its contamination holds the base of that
pub record HasBase (managed : List ManagedSubscription) (x : Instance) : Type 0 where
  pub subscription : ManagedSubscription
  pub found : slice_get managed x.place ≡ Some subscription
  pub base : is_subset subscription.fixed.base x.s ≡ true
