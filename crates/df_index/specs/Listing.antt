-- Under which names subscriptions are listed.
use Rattle.std.specs.Prelude.{◌≡◌, ℕ, ◌+◌, Bool, false, if◌then◌else◌, List, [], ◌∷◌, map, Option, Some, None, IsSome, length}
use Rattle.std.specs.List.{All, Contains, filter, flat_map, list_any}
use Rattle.std.specs.List.Sorted.{IsStrictlySortedBy}
use Rattle.std.specs.Str.{bytes_eq}
use Rattle.std.specs.BTreeMap as tree
use Rattle.std.specs.BTreeMap.{BTreeMap}
use Rattle.std.specs.Cmp.Lexicographic.{slice_cmp}
use Rattle.std.specs.Ordering.{nat_cmp}
use Rattle.std.specs.Option.{unwrap_or}
use Rattle.df_frozen.specs.Name.{name_cmp}
use Rattle.df_part.specs.declared.part.Part.{Part}
use Rattle.df_index.specs.declared.subscription.Subscription.{Subscription}

-- the names of the parts
abbrev pub names_of : List Part → List (List ℕ)
names_of parts = map (λ p. p.name) parts

-- whether the first name is this one
abbrev pub is_first : Option (List ℕ) → List ℕ → Bool
is_first None name = false
is_first (Some first) name = bytes_eq first name

-- whether the subscription is listed under one of these names
abbrev pub is_listed : {F : Type 0} → (F → Option (List ℕ)) → List (List ℕ) → Subscription F
    → Bool
is_listed first names s = list_any (is_first (first s.filter)) names

-- how many of the subscriptions are listed under these names
abbrev pub listed_under : {F : Type 0} → (F → Option (List ℕ)) → List (List ℕ)
    → List (Subscription F) → ℕ
listed_under first names subscriptions =
    length (filter (is_listed first names) subscriptions)

-- the places of the subscriptions with this first name, where the first has place i
abbrev pub places_from : {F : Type 0} → (F → Option (List ℕ)) → List ℕ → ℕ
    → List (Subscription F) → List ℕ
places_from first name i [] = []
places_from first name i (s ∷ more) =
    if is_first (first s.filter) name
    then i ∷ places_from first name (i + 1) more else places_from first name (i + 1) more

-- the places of the subscriptions with this first name
abbrev pub places_of : {F : Type 0} → (F → Option (List ℕ)) → List ℕ → List (Subscription F)
    → List ℕ
places_of first name subscriptions = places_from first name 0 subscriptions

-- these are the places of the subscriptions that are listed under the names of the parts, each name
-- once
pub record AreLookedUp {F : Type 0} (first : F → Option (List ℕ)) (parts : List Part)
    (subscriptions : List (Subscription F)) (found : List ℕ) : Type 0 where
  pub names : List (List ℕ)
  pub ascending : IsStrictlySortedBy name_cmp names
  pub among : (n : List ℕ) → Contains names n → Contains (names_of parts) n
  pub all : (n : List ℕ) → Contains (names_of parts) n → Contains names n
  pub places : found ≡ flat_map (λ name. places_of first name subscriptions) names

-- the places that the table has at a name
abbrev pub places_at : List ℕ → BTreeMap (List ℕ) (List ℕ) → List ℕ
places_at name table = unwrap_or (tree.get (slice_cmp nat_cmp) table name) []

-- each subscription has a first name, and the table has the places of the subscriptions with each
-- first name
pub record IsListing {F : Type 0} (first : F → Option (List ℕ))
    (subscriptions : List (Subscription F)) (table : BTreeMap (List ℕ) (List ℕ)) : Type 0 where
  pub named : All (λ s. IsSome (first s.filter)) subscriptions
  pub listed : (name : List ℕ) → places_at name table ≡ places_of first name subscriptions
