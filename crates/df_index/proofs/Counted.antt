-- How many places are listed under some names.
use Rattle.std.proofs.Common.{◌≡◌, ℕ, ◌+◌, ◌≤◌, List, [], ◌∷◌, ◌++◌, Option, Some, None, Bool, true, false, ◌||◌, if◌then◌else◌, length, refl, ap, sym, subst, ◌∙◌, arith, length-append}
use Rattle.std.specs.Cmp.Lexicographic.{slice_cmp}
use Rattle.std.specs.List.{AllByRecursion, Contains, filter, flat_map, list_any}
use Rattle.std.specs.List.Sorted.{IsStrictlySortedBy}
use Rattle.std.specs.Ordering.{is_eq, nat_cmp}
use Rattle.std.specs.Str.{bytes_eq}
use Rattle.std.specs.declared.cmp.Ordering.TheVariants.{Less}
use Rattle.std.proofs.lemmas.List.Folds.{Any-from_list_any, list_any-from_Any}
use Rattle.std.proofs.lemmas.Map.Text.{is_eq-slice_cmp}
use Rattle.std.proofs.lemmas.Slice.Eq.{bytes_eq-Decides}
use Rattle.df_index.specs.Listing.{is_first, is_listed, listed_under, places_from, places_of}
use Rattle.df_index.specs.declared.subscription.Subscription.{Subscription}

-- how many of the names pass the test
abbrev times : (List ℕ → Bool) → List (List ℕ) → ℕ
times test [] = 0
times test (n ∷ ns) = (if test n then 1 else 0) + times test ns

-- one more subscription
more : {F : Type 0} (first : F → Option (List ℕ)) (i : ℕ) (x : Subscription F) (xs : List (Subscription F)) (ns : List (List ℕ)) → length (flat_map (λ n. places_from first n i (x ∷ xs)) ns) ≡ times (is_first (first x.filter)) ns + length (flat_map (λ n. places_from first n (i + 1) xs) ns)
more first i x xs [] = refl
more first i x xs (n ∷ ns) = by (is_first (first x.filter) n) (more first i x xs ns)
  where
    by : (b : Bool) → length (flat_map (λ n. places_from first n i (x ∷ xs)) ns) ≡ times (is_first (first x.filter)) ns + length (flat_map (λ n. places_from first n (i + 1) xs) ns)
        → length ((if b then i ∷ places_from first n (i + 1) xs else places_from first n (i + 1) xs) ++ flat_map (λ n. places_from first n i (x ∷ xs)) ns) ≡ ((if b then 1 else 0) + times (is_first (first x.filter)) ns) + length (places_from first n (i + 1) xs ++ flat_map (λ n. places_from first n (i + 1) xs) ns)
    by true h = let a = length-append (places_from first n (i + 1) xs) (flat_map (λ n. places_from first n i (x ∷ xs)) ns) in let b = length-append (places_from first n (i + 1) xs) (flat_map (λ n. places_from first n (i + 1) xs) ns) in omega (arith, a, b, h)
    by false h = let a = length-append (places_from first n (i + 1) xs) (flat_map (λ n. places_from first n i (x ∷ xs)) ns) in let b = length-append (places_from first n (i + 1) xs) (flat_map (λ n. places_from first n (i + 1) xs) ns) in omega (arith, a, b, h)

-- a name below all of these is none of them
absent : (x : List ℕ) (ns : List (List ℕ)) → AllByRecursion (λ y. slice_cmp nat_cmp x y ≡ Less) ns → times (bytes_eq x) ns ≡ 0
absent x [] h = refl
absent x (n ∷ ns) h =
    let e : bytes_eq x n ≡ false = sym (is_eq-slice_cmp x n) ∙ ap is_eq h.0 in
    let rest = absent x ns h.1 in
    rw (e, rest) refl

never : (ns : List (List ℕ)) → times (is_first None) ns ≡ 0
never [] = refl
never (n ∷ ns) = let e = never ns in omega (arith, e)

-- names that ascend have each name once
once : (o : Option (List ℕ)) (ns : List (List ℕ)) → IsStrictlySortedBy (slice_cmp nat_cmp) ns → times (is_first o) ns ≤ (if list_any (is_first o) ns then 1 else 0)
unfolding IsStrictlySortedBy
once None ns h = let e = never ns in omega (arith, e)
once (Some x) [] h = omega arith
once (Some x) (n ∷ ns) h = by (bytes_eq x n) (bytes_eq-Decides x n).0 (once (Some x) ns h.1) (λ e. absent x ns (subst (λ (m : List ℕ). AllByRecursion (λ y. slice_cmp nat_cmp m y ≡ Less) ns) (sym e) h.0))
  where
    by : (b : Bool) → (b ≡ true → x ≡ n) → times (bytes_eq x) ns ≤ (if list_any (bytes_eq x) ns then 1 else 0) → (x ≡ n → times (bytes_eq x) ns ≡ 0) → (if b then 1 else 0) + times (bytes_eq x) ns ≤ (if b || list_any (bytes_eq x) ns then 1 else 0)
    by true e ih z = let none = z (e refl) in omega (arith, none)
    by false e ih z = omega (arith, ih)

nothing : {F : Type 0} (first : F → Option (List ℕ)) (i : ℕ) (ns : List (List ℕ)) → length (flat_map (λ n. places_from first n i []) ns) ≡ 0
nothing first i [] = refl
nothing first i (n ∷ ns) = nothing first i ns

-- a longer list of names lists no fewer
any_same : (o : Option (List ℕ)) (ns ms : List (List ℕ)) → ((n : List ℕ) → Contains ns n → Contains ms n) → list_any (is_first o) ns ≡ true → list_any (is_first o) ms ≡ true
any_same o ns ms h e =
    let a = Any-from_list_any (is_first o) ns e in
    let m = h a.1 (a.0, a.2, a.3) in
    list_any-from_Any (is_first o) ms (m.0, a.1, m.1, m.2, a.4)

listed_from : {F : Type 0} (first : F → Option (List ℕ)) (i : ℕ) (ns ms : List (List ℕ)) → IsStrictlySortedBy (slice_cmp nat_cmp) ns → ((n : List ℕ) → Contains ns n → Contains ms n) → (xs : List (Subscription F)) → length (flat_map (λ n. places_from first n i xs) ns) ≤ listed_under first ms xs
listed_from first i ns ms h k [] = let e = nothing first i ns in omega (arith, e)
listed_from first i ns ms h k (x ∷ xs) = by (list_any (is_first (first x.filter)) ns) (list_any (is_first (first x.filter)) ms) (any_same (first x.filter) ns ms k) (once (first x.filter) ns h) (more first i x xs ns) (listed_from first (i + 1) ns ms h k xs)
  where
    by : (p q : Bool) → (p ≡ true → q ≡ true) → times (is_first (first x.filter)) ns ≤ (if p then 1 else 0) → length (flat_map (λ n. places_from first n i (x ∷ xs)) ns) ≡ times (is_first (first x.filter)) ns + length (flat_map (λ n. places_from first n (i + 1) xs) ns) → length (flat_map (λ n. places_from first n (i + 1) xs) ns) ≤ listed_under first ms xs
        → length (flat_map (λ n. places_from first n i (x ∷ xs)) ns) ≤ length (if q then x ∷ filter (is_listed first ms) xs else filter (is_listed first ms) xs)
    by true true i o m l = omega (arith, o, m, l)
    by true false i o m l = absurd (let e = i refl in (let z : ⊥ = cc in z))
    by false true i o m l = omega (arith, o, m, l)
    by false false i o m l = omega (arith, o, m, l)

-- names that ascend, and are among these, have at most as many places as subscriptions are listed under these
pub places_bound : {F : Type 0} (first : F → Option (List ℕ)) (ns ms : List (List ℕ)) (xs : List (Subscription F)) → IsStrictlySortedBy (slice_cmp nat_cmp) ns → ((n : List ℕ) → Contains ns n → Contains ms n) → length (flat_map (λ n. places_of first n xs) ns) ≤ listed_under first ms xs
places_bound first ns ms xs h k = listed_from first 0 ns ms h k xs
