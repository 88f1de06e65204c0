-- Places that are listed, and how they are found.
use Rattle.std.proofs.Common.{◌≡◌, ℕ, zero, suc, ◌+◌, ◌<◌, ◌≤◌, List, [], ◌∷◌, Option, Some, None, Bool, true, false, ◌==◌, ◌||◌, if◌then◌else◌, Result, Ok, Err, length, get_or, slice_get, refl, ap, sym, subst, ◌∙◌, arith, ⊎_elim}
use Rattle.std.specs.List.{flat_map, list_any}
use Rattle.std.specs.List.Sorted.{IsBinarySearchResult, IsSorted}
use Rattle.std.specs.Ordering.{nat_cmp}
use Rattle.std.specs.Result.{is_ok}
use Rattle.std.proofs.lemmas.Bool.{cases_lt, eq-eqb, ne_eqb}
use Rattle.std.proofs.lemmas.List.{get_or_default}
use Rattle.std.proofs.lemmas.List.Folds.{list_any-append, list_any_at, list_any_none}
use Rattle.std.proofs.lemmas.List.Sorted.{IsNonDecreasingBy-from_sort, searched}
use Rattle.df_instances.specs.Marks.{has_place}
use Rattle.df_instances.specs.code.Listing.{places_from}

-- whether the element, if there is one, passes the test
abbrev pub passes : {X : Type 0} → (X → Bool) → Option X → Bool
passes test None = false
passes test (Some x) = test x

-- no place is below the first
place_below : {X : Type 0} (test : X → Bool) (i : ℕ) (xs : List X) (k : ℕ) → k < i → has_place (places_from test i xs) k ≡ false
place_below test i [] k l = refl
place_below {X} test i (x ∷ xs) k l = by (test x) (place_below test (i + 1) xs k (omega (arith, l))) (ne_eqb i k (λ e. omega (arith, l, e)))
  where
    by : (b : Bool) → has_place (places_from test (i + 1) xs) k ≡ false → (i == k) ≡ false
        → has_place (if b then i ∷ places_from test (i + 1) xs else places_from test (i + 1) xs) k ≡ false
    by true later apart = rw apart later
    by false later apart = later

-- a place is listed where the element there passes
place_passes : {X : Type 0} (test : X → Bool) (i : ℕ) (xs : List X) (j : ℕ) → has_place (places_from test i xs) (i + j) ≡ passes test (slice_get xs j)
place_passes test i [] j = refl
place_passes {X} test i (x ∷ xs) zero = by (test x) (eq-eqb i (i + 0) (omega arith)) (place_below test (i + 1) xs (i + 0) (omega arith))
  where
    by : (b : Bool) → (i == (i + 0)) ≡ true → has_place (places_from test (i + 1) xs) (i + 0) ≡ false
        → has_place (if b then i ∷ places_from test (i + 1) xs else places_from test (i + 1) xs) (i + 0) ≡ b
    by true first later = rw first refl
    by false first later = later
place_passes {X} test i (x ∷ xs) (suc j) =
    by (test x) (ne_eqb i (i + suc j) (λ e. omega (arith, e)))
    (subst (λ (k : ℕ). has_place (places_from test (i + 1) xs) k ≡ passes test (slice_get xs j)) (omega arith) (place_passes test (i + 1) xs j))
  where
    by : (b : Bool) → (i == (i + suc j)) ≡ false → has_place (places_from test (i + 1) xs) (i + suc j) ≡ passes test (slice_get xs j)
        → has_place (if b then i ∷ places_from test (i + 1) xs else places_from test (i + 1) xs) (i + suc j) ≡ passes test (slice_get xs j)
    by true apart later = rw apart later
    by false apart later = later

pub place_is : {X : Type 0} (test : X → Bool) (xs : List X) (k : ℕ) → has_place (places_from test 0 xs) k ≡ passes test (slice_get xs k)
place_is test xs k = subst (λ (j : ℕ). has_place (places_from test 0 xs) j ≡ passes test (slice_get xs k)) (omega arith) (place_passes test 0 xs k)

-- a place is among joined lists where it is in one of them
pub place_joined : {X : Type 0} (f : X → List ℕ) (xs : List X) (k : ℕ) → has_place (flat_map f xs) k ≡ list_any (λ x. has_place (f x) k) xs
place_joined f [] k = refl
place_joined f (x ∷ xs) k = list_any-append (λ j. j == k) (f x) (flat_map f xs) ∙ ap (λ (b : Bool). has_place (f x) k || b) (place_joined f xs k)

-- a binary search tells whether a place is among those that ascend
pub place_searched : (xs : List ℕ) (k : ℕ) (r : Result ℕ ℕ) → IsSorted nat_cmp xs → IsBinarySearchResult (λ j. nat_cmp j k) xs r → is_ok r ≡ has_place xs k
place_searched xs k (Ok i) up found =
    let at = searched xs k (Ok i) found (λ m n l h. IsNonDecreasingBy-from_sort (λ (j : ℕ). j) xs up m n 0 l h) in
    sym (list_any_at (λ j. j == k) xs i 0 at.0 (eq-eqb (get_or xs i 0) k at.1))
place_searched xs k (Err i) up found =
    sym (list_any_none (λ j. j == k) xs (λ n d l. ne_eqb (get_or xs n d) k (λ e. apart n l (get_or_default xs n 0 d l ∙ e))))
  where
    sides : (i ≤ length xs) × ((n : ℕ) → n < i → get_or xs n 0 < k) × ((n : ℕ) → i ≤ n → n < length xs → k < get_or xs n 0)
    sides = searched xs k (Err i) found (λ m n l h. IsNonDecreasingBy-from_sort (λ (j : ℕ). j) xs up m n 0 l h)

    apart : (n : ℕ) → n < length xs → get_or xs n 0 ≡ k → ⊥
    apart n l e = ⊎_elim
        (λ below. let b = sides.1 n below in omega (arith, b, e))
        (λ above. let a = sides.2 n above l in omega (arith, a, e))
        (cases_lt n i)
