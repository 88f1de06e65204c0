-- Which subscriptions are found under names.
use Rattle.std.proofs.Common.{◌≡◌, ℕ, ◌<◌, ◌==◌, List, [], ◌∷◌, ◌++◌, Option, Some, None, Bool, true, false, ◌&&◌, ◌||◌, length, get_or, slice_get, refl, ap, sym, ◌∙◌, inl, inr, All}
use Rattle.std.specs.List.{flat_map, list_any}
use Rattle.std.specs.Str.{bytes_eq}
use Rattle.std.proofs.lemmas.Bool.{and_right, eq-eqb, or_cases, or_left, or_right}
use Rattle.std.proofs.lemmas.List.{map-append}
use Rattle.std.proofs.lemmas.List.Folds.{list_any-append, list_any_at}
use Rattle.std.proofs.lemmas.Option.{slice_get_within}
use Rattle.df_filter.specs.Clause.{test_holds}
use Rattle.df_filter.specs.declared.clause.Clause.{Clause}
use Rattle.df_index.specs.Filter.{first_of}
use Rattle.df_index.specs.Listing.{is_first, names_of}
use Rattle.df_label.specs.TagSet.{is_subset, union}
use Rattle.df_part.specs.declared.part.Part.{Part}
use Rattle.df_rules.specs.Choices.{fits, gives}
use Rattle.df_instances.specs.Chosen.{gives_at}
use Rattle.df_instances.specs.Marks.{has_place}
use Rattle.df_instances.specs.code.Listing.{is_listed_at, is_named, places_named}
use Rattle.df_instances.specs.declared.subscription.ManagedSubscription.{ManagedSubscription}
use Rattle.df_instances.proofs.Placed.{passes, place_is, place_joined}

never : {X : Type 0} (xs : List X) → list_any (λ x. false) xs ≡ false
never [] = refl
never (x ∷ xs) = never xs

-- what is looked up under names is what is listed under them
pub looked : (names : List (List ℕ)) (managed : List ManagedSubscription) (k : ℕ)
    → has_place (flat_map (λ name. places_named name managed) names) k ≡ is_listed_at names (slice_get managed k)
looked names managed k =
    place_joined (λ name. places_named name managed) names k
    ∙ (λ i. list_any (λ name. place_is (is_named name) managed k i) names)
    ∙ at (slice_get managed k)
  where
    at : (o : Option ManagedSubscription) → list_any (λ name. passes (is_named name) o) names ≡ is_listed_at names o
    at None = never names
    at (Some m) = refl

-- names that pass the same tests list the same subscriptions
pub listed_alike : (names others : List (List ℕ)) → ((p : List ℕ → Bool) → list_any p names ≡ list_any p others) → (o : Option ManagedSubscription)
    → is_listed_at names o ≡ is_listed_at others o
listed_alike names others same None = refl
listed_alike names others same (Some m) = same (λ name. is_named name m)

-- places of what is listed are places of subscriptions
pub places_within : (names : List (List ℕ)) (managed : List ManagedSubscription) (places : List ℕ)
    → ((k : ℕ) → has_place places k ≡ is_listed_at names (slice_get managed k)) → All (λ k. k < length managed) places
places_within names managed places same i d l =
    let k = get_or places i d in
    at k (slice_get managed k) refl (sym (same k) ∙ list_any_at (λ j. j == k) places i d l (eq-eqb k k refl))
  where
    at : (k : ℕ) (o : Option ManagedSubscription) → slice_get managed k ≡ o → is_listed_at names o ≡ true → k < length managed
    at k None e h = absurd (let z : ⊥ = cc in z)
    at k (Some m) e h = slice_get_within managed k m e

-- a part that fits the clause has its name
fitting_named : (c : Clause) (integrity : List (List ℕ)) (rest : Part → Bool) (parts : List Part)
    → list_any (λ part. fits integrity c part && rest part) parts ≡ true → list_any (bytes_eq c.name) (names_of parts) ≡ true
fitting_named c integrity rest [] h = h
fitting_named c integrity rest (p ∷ ps) h =
    by (bytes_eq c.name p.name) (test_holds c.test p.value) (is_subset integrity p.label.i) (rest p) (fitting_named c integrity rest ps) h
  where
    by : (a b s r : Bool) → (list_any (λ part. fits integrity c part && rest part) ps ≡ true → list_any (bytes_eq c.name) (names_of ps) ≡ true)
        → ((((a && b) && s) && r) || list_any (λ part. fits integrity c part && rest part) ps) ≡ true
        → (a || list_any (bytes_eq c.name) (names_of ps)) ≡ true
    by true b s r later h = refl
    by false b s r later h = later h

any_name : (p : List ℕ → Bool) (old added : List Part) → (list_any p (names_of old) || list_any p (names_of added)) ≡ list_any p (names_of (old ++ added))
any_name p old added = sym (ap (list_any p) (map-append (λ (part : Part). part.name) old added) ∙ list_any-append p (names_of old) (names_of added))

-- a choice that gives a set has a part of the filter's first name
choice_named : (clauses : List Clause) (integrity t base : List (List ℕ)) (old added : List Part) → gives clauses integrity t base false old added ≡ true
    → list_any (λ name. is_first (first_of clauses) name) (names_of (old ++ added)) ≡ true
choice_named [] integrity t base old added h = absurd (let z : ⊥ = cc in z)
choice_named (c ∷ cs) integrity t base old added h =
    let stale : Part → Bool = λ part. gives cs integrity t (union base part.label.s) false old added in
    let fresh : Part → Bool = λ part. gives cs integrity t (union base part.label.s) true old added in
    let by_old : Bool = list_any (λ part. fits integrity c part && stale part) old in
    let by_added : Bool = list_any (λ part. fits integrity c part && fresh part) added in
    let one : (list_any (bytes_eq c.name) (names_of old) || list_any (bytes_eq c.name) (names_of added)) ≡ true = elim (or_cases by_old by_added h) [
      | inl e ↦ or_left (list_any (bytes_eq c.name) (names_of old)) (list_any (bytes_eq c.name) (names_of added)) (fitting_named c integrity stale old e)
      | inr e ↦ or_right (list_any (bytes_eq c.name) (names_of old)) (list_any (bytes_eq c.name) (names_of added)) (fitting_named c integrity fresh added e)
    ] in
    sym (any_name (bytes_eq c.name) old added) ∙ one

-- what has a choice is listed under the names after the commit
pub listed_where_given : (t : List (List ℕ)) (old added : List Part) (o : Option ManagedSubscription)
    → (is_listed_at (names_of (old ++ added)) o && gives_at o t old added) ≡ gives_at o t old added
listed_where_given t old added None = refl
listed_where_given t old added (Some m) =
    by (gives_at (Some m) t old added) (is_listed_at (names_of (old ++ added)) (Some m))
    (choice_named m.fixed.filter m.fixed.input_integrity t m.fixed.base old added)
  where
    by : (g listed : Bool) → (g ≡ true → listed ≡ true) → (listed && g) ≡ g
    by true listed h = rw (h refl) refl
    by false listed h = and_right listed false refl
