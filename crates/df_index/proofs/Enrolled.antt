-- One more subscription that is enrolled.
use Rattle.std.proofs.Common.{◌≡◌, ℕ, ◌+◌, List, [], ◌∷◌, ◌++◌, Option, Some, Bool, true, false, if◌then◌else◌, cond, length, refl, ap, sym, subst, ◌∙◌, arith}
use Rattle.std.specs.BTreeMap.{BTreeMap}
use Rattle.std.specs.Prelude.{IsSome}
use Rattle.std.specs.Str.{bytes_eq}
use Rattle.std.proofs.lemmas.List.Elements.{All-push}
use Rattle.df_index.specs.Listing.{IsListing, is_first, places_at, places_from, places_of}
use Rattle.df_index.specs.declared.subscription.Subscription.{Subscription}

-- the place of one more subscription stands last
pub places_from-push : {F : Type 0} (first : F → Option (List ℕ)) (name : List ℕ) (i : ℕ) (xs : List (Subscription F)) (s : Subscription F) → places_from first name i (xs ++ s ∷ []) ≡ (if is_first (first s.filter) name then places_from first name i xs ++ (i + length xs) ∷ [] else places_from first name i xs)
places_from-push first name i [] s = by (is_first (first s.filter) name)
  where
    by : (b : Bool) → (if b then i ∷ [] else []) ≡ (if b then (i + 0) ∷ [] else [])
    by true = ap (λ (k : ℕ). k ∷ []) (omega arith)
    by false = refl
places_from-push first name i (x ∷ xs) s = by (is_first (first x.filter) name) (is_first (first s.filter) name) (places_from-push first name (i + 1) xs s)
  where
    place : (i + 1) + length xs ≡ i + length (x ∷ xs)
    place = omega arith

    by : (a b : Bool) → places_from first name (i + 1) (xs ++ s ∷ []) ≡ (if b then places_from first name (i + 1) xs ++ ((i + 1) + length xs) ∷ [] else places_from first name (i + 1) xs)
        → (if a then i ∷ places_from first name (i + 1) (xs ++ s ∷ []) else places_from first name (i + 1) (xs ++ s ∷ [])) ≡ (if b then (if a then i ∷ places_from first name (i + 1) xs else places_from first name (i + 1) xs) ++ (i + length (x ∷ xs)) ∷ [] else (if a then i ∷ places_from first name (i + 1) xs else places_from first name (i + 1) xs))
    by true true ih = ap (λ (l : List ℕ). i ∷ l) (ih ∙ ap (λ (k : ℕ). places_from first name (i + 1) xs ++ k ∷ []) place)
    by true false ih = ap (λ (l : List ℕ). i ∷ l) ih
    by false true ih = ih ∙ ap (λ (k : ℕ). places_from first name (i + 1) xs ++ k ∷ []) place
    by false false ih = ih

pub places_of-push : {F : Type 0} (first : F → Option (List ℕ)) (name : List ℕ) (xs : List (Subscription F)) (s : Subscription F) → places_of first name (xs ++ s ∷ []) ≡ (if is_first (first s.filter) name then places_of first name xs ++ length xs ∷ [] else places_of first name xs)
places_of-push first name xs s = by (is_first (first s.filter) name) (places_from-push first name 0 xs s)
  where
    by : (b : Bool) → places_from first name 0 (xs ++ s ∷ []) ≡ (if b then places_from first name 0 xs ++ (0 + length xs) ∷ [] else places_from first name 0 xs) → places_of first name (xs ++ s ∷ []) ≡ (if b then places_of first name xs ++ length xs ∷ [] else places_of first name xs)
    by true e = e ∙ ap (λ (k : ℕ). places_of first name xs ++ k ∷ []) (omega arith)
    by false e = e

-- a table that has the same places at each name serves as well
pub IsListing-like : {F : Type 0} (first : F → Option (List ℕ)) (xs : List (Subscription F)) (table new : BTreeMap (List ℕ) (List ℕ)) → ((n : List ℕ) → places_at n new ≡ places_at n table) → IsListing first xs table → IsListing first xs new
IsListing-like first xs table new same h = record { named = h.named; listed = λ n. same n ∙ h.listed n }

-- one more subscription is enrolled, and listed under its first name
pub IsListing-push : {F : Type 0} (first : F → Option (List ℕ)) (xs : List (Subscription F)) (table new : BTreeMap (List ℕ) (List ℕ)) (s : Subscription F) (name : List ℕ) → first s.filter ≡ Some name
    → ((n : List ℕ) → places_at n new ≡ cond (bytes_eq name n) (places_at n table ++ length xs ∷ []) (places_at n table)) → IsListing first xs table → IsListing first (xs ++ s ∷ []) new
IsListing-push first xs table new s name named more h = record {
  named = All-push (λ (x : Subscription _). IsSome (first x.filter)) xs s h.named (subst IsSome (sym named) refl);
  listed = λ n. more n ∙ ap (λ (l : List ℕ). cond (bytes_eq name n) (l ++ length xs ∷ []) l) (h.listed n)
      ∙ sym (places_of-push first n xs s ∙ ap (λ (o : Option (List ℕ)). if is_first o n then places_of first n xs ++ length xs ∷ [] else places_of first n xs) named);
}
