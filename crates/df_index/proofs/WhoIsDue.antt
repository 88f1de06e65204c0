-- Who is found where places are listed under names.
use Rattle.std.proofs.Common.{◌≡◌, ℕ, zero, suc, ◌+◌, ◌<◌, List, [], ◌∷◌, Option, Some, None, Bool, true, false, if◌then◌else◌, map, length, get_or, slice_get, refl, ap, sym, subst, ◌∙◌, arith, ⊎_elim, All}
use Rattle.std.specs.List.{Contains, filter, flat_map}
use Rattle.std.proofs.lemmas.List.Elements.{Contains-get_or}
use Rattle.std.proofs.lemmas.Option.{slice_get_read}
use Rattle.std.proofs.lemmas.Slice.Eq.{bytes_eq-Decides}
use Rattle.df_index.specs.Due.{Pair, pair_of, pair_where, pairs_at}
use Rattle.df_index.specs.Listing.{is_first, places_of}
use Rattle.df_index.specs.declared.subscription.Subscription.{Subscription}
use Rattle.df_index.proofs.Members.{contains_cases, contains_later, joined_from, joined_in, listed_at, listed_in}

some_below : {X : Type 0} (xs : List X) (k : ℕ) (x : X) → slice_get xs k ≡ Some x → k < length xs
some_below [] k x e = absurd (let z : ⊥ = cc in z)
some_below (y ∷ ys) zero x e = omega arith
some_below (y ∷ ys) (suc k) x e = let h = some_below ys k x e in omega (arith, h)

some_contained : {X : Type 0} (xs : List X) (k : ℕ) (x : X) → slice_get xs k ≡ Some x → Contains xs x
some_contained [] k x e = absurd (let z : ⊥ = cc in z)
some_contained (y ∷ ys) zero x e = let same : y ≡ x = cc in (0, omega arith, same)
some_contained (y ∷ ys) (suc k) x e = contains_later y x ys (some_contained ys k x e)

-- the names of some parts are names of all
pub kept_names : {X Y : Type 0} (f : X → Y) (p : X → Bool) (xs : List X) (y : Y) → Contains (map f (filter p xs)) y → Contains (map f xs) y
kept_names f p [] y h = h
kept_names f p (x ∷ xs) y h = by (p x) (λ d. kept_names f p xs y d) h
  where
    by : (b : Bool) → (Contains (map f (filter p xs)) y → Contains (map f xs) y) → Contains (map f (if b then x ∷ filter p xs else filter p xs)) y → Contains (f x ∷ map f xs) y
    by true ih c = ⊎_elim (λ e. (0, omega arith, e)) (λ d. contains_later (f x) y (map f xs) (ih d)) (contains_cases (f x) y (map f (filter p xs)) c)
    by false ih c = contains_later (f x) y (map f xs) (ih c)

zero_add : (k : ℕ) → 0 + k ≡ k
zero_add k = omega arith

-- a subscription that passes the test, and has this pair
pub record Passes {F : Type 0} (test : Subscription F → Bool) (xs : List (Subscription F)) (p : Pair) : Type 0 where
  pub subscription : Subscription F
  pub enrolled : Contains xs subscription
  pub pair : pair_of subscription ≡ p
  pub passes : test subscription ≡ true

-- the places that are looked at
abbrev pub places_under : {F : Type 0} → (F → Option (List ℕ)) → List (Subscription F) → List (List ℕ) → List ℕ
places_under first xs names = flat_map (λ n. places_of first n xs) names

-- they are those of subscriptions
pub places_within : {F : Type 0} (first : F → Option (List ℕ)) (xs : List (Subscription F)) (names : List (List ℕ)) → All (λ (k : ℕ). k < length xs) (places_under first xs names)
places_within first xs names i d h =
    let from = joined_from (λ n. places_of first n xs) names (get_or (places_under first xs names) i d) (Contains-get_or (places_under first xs names) i d h) in
    let place = listed_at first from.piece 0 xs (get_or (places_under first xs names) i d) from.within in
    let below = some_below xs place.step place.subscription place.found in
    let p = place.place in omega (arith, below, p)

module _ {F : Type 0} (first : F → Option (List ℕ)) (test : Subscription F → Bool) (xs : List (Subscription F)) (names : List (List ℕ)) where
  pair_from : (o : Option (Subscription F)) (p : Pair) → Contains (pair_where test o) p → (s : Subscription F) × (o ≡ Some s) × (pair_of s ≡ p) × (test s ≡ true)
  pair_from None p (k, l, e) = absurd (omega (arith, l))
  pair_from (Some s) p h = by (test s) refl h
    where
      by : (b : Bool) → test s ≡ b → Contains (if b then pair_of s ∷ [] else []) p → (x : Subscription F) × (Some s ≡ Some x) × (pair_of x ≡ p) × (test x ≡ true)
      by true e c = (s, refl, ⊎_elim (λ q. q) (λ n. absurd (let b = n.1 in omega (arith, b))) (contains_cases (pair_of s) p [] c), e)
      by false e (k, l, q) = absurd (omega (arith, l))

  -- who is found passes
  pub found_passes : (p : Pair) → Contains (pairs_at test xs (places_under first xs names)) p → Passes test xs p
  found_passes p h =
      let from = joined_from (λ k. pair_where test (slice_get xs k)) (places_under first xs names) p h in
      let found = pair_from (slice_get xs from.piece) p from.within in
      record { subscription = found.0; enrolled = some_contained xs from.piece found.0 found.1; pair = found.2; passes = found.3 }

  -- who passes is found, if a subscription that passes has a first name that is looked at
  pub passing_found : ((s : Subscription F) → Contains xs s → test s ≡ true → (n : List ℕ) × (first s.filter ≡ Some n) × Contains names n) → (p : Pair) → Passes test xs p → Contains (pairs_at test xs (places_under first xs names)) p
  passing_found looked p d =
      let s = d.subscription in
      let k = d.enrolled.0 in
      let read = slice_get_read xs (length xs) k s refl d.enrolled.1 (sym d.enrolled.2) in
      let name = looked s d.enrolled d.passes in
      let named : is_first (first s.filter) name.0 ≡ true = ap (λ (o : Option (List ℕ)). is_first o name.0) name.1 ∙ (bytes_eq-Decides name.0 name.0).1 refl in
      let place : Contains (places_of first name.0 xs) k = subst (λ (m : ℕ). Contains (places_of first name.0 xs) m) (zero_add k) (listed_in first name.0 0 xs k s read named) in
      joined_in (λ k. pair_where test (slice_get xs k)) (places_under first xs names) k p (joined_in (λ n. places_of first n xs) names name.0 k name.2 place)
      (subst (λ (o : Option (Subscription F)). Contains (pair_where test o) p) (sym read) (rw d.passes (0, omega arith, d.pair)))
