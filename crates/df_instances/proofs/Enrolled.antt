-- One more managed subscription.
use Rattle.std.proofs.Common.{◌≡◌, ℕ, ◌+◌, ◌<◌, List, [], ◌∷◌, ◌++◌, Option, Some, Bool, true, false, if◌then◌else◌, cond, length, refl, ap, sym, ◌∙◌, arith}
use Rattle.std.specs.BTreeMap.{BTreeMap}
use Rattle.std.specs.Str.{bytes_eq}
use Rattle.std.proofs.lemmas.List.Elements.{All-push}
use Rattle.df_index.specs.Filter.{first_of}
use Rattle.df_index.specs.Listing.{is_first, places_at}
use Rattle.df_local.specs.Births.{IsAccounted, record_of}
use Rattle.df_instances.specs.code.Listing.{IsManaged, is_named, places_from, places_named}
use Rattle.df_instances.specs.declared.subscription.ManagedSubscription.{ManagedSubscription}

-- the place of one more stands last
places_from-push : {X : Type 0} (test : X → Bool) (i : ℕ) (xs : List X) (y : X)
    → places_from test i (xs ++ y ∷ []) ≡ (if test y then places_from test i xs ++ (i + length xs) ∷ [] else places_from test i xs)
places_from-push test i [] y = by (test y)
  where
    by : (b : Bool) → (if b then i ∷ [] else []) ≡ (if b then (i + 0) ∷ [] else [])
    by true = ap (λ (k : ℕ). k ∷ []) (omega arith)
    by false = refl
places_from-push {X} test i (x ∷ xs) y = by (test x) (test y) (places_from-push test (i + 1) xs y)
  where
    more : List ℕ
    more = places_from test (i + 1) xs

    place : (i + 1) + length xs ≡ i + length (x ∷ xs)
    place = omega arith

    by : (a b : Bool) → places_from test (i + 1) (xs ++ y ∷ []) ≡ (if b then more ++ ((i + 1) + length xs) ∷ [] else more)
        → (if a then i ∷ places_from test (i + 1) (xs ++ y ∷ []) else places_from test (i + 1) (xs ++ y ∷ []))
        ≡ (if b then (if a then i ∷ more else more) ++ (i + length (x ∷ xs)) ∷ [] else (if a then i ∷ more else more))
    by true true ih = ap (λ (l : List ℕ). i ∷ l) (ih ∙ ap (λ (k : ℕ). more ++ k ∷ []) place)
    by true false ih = ap (λ (l : List ℕ). i ∷ l) ih
    by false true ih = ih ∙ ap (λ (k : ℕ). more ++ k ∷ []) place
    by false false ih = ih

places_named-push : (name : List ℕ) (managed : List ManagedSubscription) (m : ManagedSubscription)
    → places_named name (managed ++ m ∷ []) ≡ (if is_named name m then places_named name managed ++ length managed ∷ [] else places_named name managed)
places_named-push name managed m =
    places_from-push (is_named name) 0 managed m
    ∙ ap (λ (k : ℕ). if is_named name m then places_named name managed ++ k ∷ [] else places_named name managed) (omega arith)

-- a table that has the same places at each name serves as well
pub IsManaged-like : (managed : List ManagedSubscription) (table new : BTreeMap (List ℕ) (List ℕ)) → ((n : List ℕ) → places_at n new ≡ places_at n table)
    → IsManaged managed table → IsManaged managed new
IsManaged-like managed table new same h = record { listed = λ n. same n ∙ h.listed n; owned = h.owned; accounted = h.accounted }

-- one more subscription is enrolled, and listed under its first name
pub IsManaged-push : (managed : List ManagedSubscription) (table new : BTreeMap (List ℕ) (List ℕ)) (m : ManagedSubscription) (name : List ℕ)
    → first_of m.fixed.filter ≡ Some name → 0 < length m.owner → IsAccounted (record_of m.fixed)
    → ((n : List ℕ) → places_at n new ≡ cond (bytes_eq name n) (places_at n table ++ length managed ∷ []) (places_at n table))
    → IsManaged managed table → IsManaged (managed ++ m ∷ []) new
IsManaged-push managed table new m name named owned accounted more h = record {
  listed = λ n. more n ∙ ap (λ (l : List ℕ). cond (bytes_eq name n) (l ++ length managed ∷ []) l) (h.listed n)
      ∙ sym (places_named-push n managed m
      ∙ ap (λ (o : Option (List ℕ)). if is_first o n then places_named n managed ++ length managed ∷ [] else places_named n managed) named);
  owned = All-push (λ (x : ManagedSubscription). 0 < length x.owner) managed m h.owned owned;
  accounted = All-push (λ (x : ManagedSubscription). IsAccounted (record_of x.fixed)) managed m h.accounted accounted;
}
