-- Under which names managed subscriptions are listed.
use Rattle.std.specs.Prelude.{◌≡◌, ◌<◌, ℕ, ◌+◌, Bool, false, if◌then◌else◌, List, [], ◌∷◌, Option, Some, None, length}
use Rattle.std.specs.BTreeMap.{BTreeMap}
use Rattle.std.specs.List.{All, list_any}
use Rattle.df_index.specs.Filter.{first_of}
use Rattle.df_index.specs.Listing.{is_first, places_at}
use Rattle.df_local.specs.Births.{IsAccounted, record_of}
use Rattle.df_instances.specs.declared.subscription.ManagedSubscription.{ManagedSubscription}

-- whether this is the name of the first clause of the subscription's filter
abbrev pub is_named : List ℕ → ManagedSubscription → Bool
is_named name m = is_first (first_of m.fixed.filter) name

-- whether the subscription, if there is one, is listed under one of these names
abbrev pub is_listed_at : List (List ℕ) → Option ManagedSubscription → Bool
is_listed_at names None = false
is_listed_at names (Some m) = list_any (λ name. is_named name m) names

-- the places of those that pass the test, where the first has place i
abbrev pub places_from : {X : Type 0} → (X → Bool) → ℕ → List X → List ℕ
places_from test i [] = []
places_from test i (x ∷ xs) =
    if test x then i ∷ places_from test (i + 1) xs else places_from test (i + 1) xs

-- the places of the subscriptions with this first name
abbrev pub places_named : List ℕ → List ManagedSubscription → List ℕ
places_named name managed = places_from (is_named name) 0 managed

-- the table has the places of the subscriptions with each first name; each subscription has an
-- owner, and what it keeps accounts for all tags
pub record IsManaged (managed : List ManagedSubscription) (table : BTreeMap (List ℕ) (List ℕ))
    : Type 0 where
  pub listed : (name : List ℕ) → places_at name table ≡ places_named name managed
  pub owned : All (λ m. 0 < length m.owner) managed
  pub accounted : All (λ m. IsAccounted (record_of m.fixed)) managed
