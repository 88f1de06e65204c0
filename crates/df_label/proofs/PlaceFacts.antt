-- What a binary search of an ascending list tells.
use Rattle.std.proofs.Common.{◌≡◌, ℕ, zero, suc, ◌<◌, ◌≤◌, ◌-◌, true, false, List, [], ◌∷◌, length, get_or, refl, ap, sym, ◌∙◌, subst, arith, Result, Ok, Err, is_ok, OnOk, IfErr}
use Rattle.std.specs.List.{insert}
use Rattle.std.specs.Prelude.{Some, slice_get}
use Rattle.std.specs.List.Sorted.{IsNonDecreasingBy, IsPartitionPoint, IsBinarySearchResult, IsSearchInRange}
use Rattle.std.specs.declared.cmp.Ordering.{Ordering}
use Rattle.std.specs.declared.cmp.Ordering.TheVariants.{Less, Equal, Greater}
use Rattle.std.specs.Ordering.{match_ordering, is_eq, is_lt, ordering_index}
use Rattle.std.proofs.lemmas.Bool.{true≢false}
use Rattle.std.proofs.lemmas.List.Folds.{list_any_at}
use Rattle.std.proofs.lemmas.Option.{get_or_from_slice_get}
use Rattle.df_label.specs.Ascending.{IsBelow, IsAscending, contains_by, insert_by}
use Rattle.df_label.proofs.SetFacts.{IsExactOrder, reversed, insert_present, ascending_insert}

-- what comes no later than `Less` is `Less`
lowest : (r top : Ordering) → is_lt top ≡ true → ordering_index r ≤ ordering_index top → r ≡ Less
lowest Less top h k = refl
lowest Equal Less h k = absurd (omega arith)
lowest Equal Equal h k = absurd (true≢false (sym h))
lowest Equal Greater h k = absurd (true≢false (sym h))
lowest Greater Less h k = absurd (omega arith)
lowest Greater Equal h k = absurd (true≢false (sym h))
lowest Greater Greater h k = absurd (true≢false (sym h))

module _ {X : Type 0} (cmp : X → X → Ordering) (o : IsExactOrder cmp) where
  below_at : (x : X) (xs : List X) (k : ℕ) (d : X) → IsBelow cmp x xs → k < length xs → cmp x (get_or xs k d) ≡ Less
  below_at x [] k d b h = absurd (omega arith)
  below_at x (y ∷ ys) zero d b h = b.0
  below_at x (y ∷ ys) (suc k) d b h = below_at x ys k d b.1 (omega arith)

  -- what comes later in an ascending list compares no lower
  rises : (x y z : X) → cmp y z ≡ Less → ordering_index (cmp y x) ≤ ordering_index (cmp z x)
  rises x y z h = elim (cmp y x) as (λ r. r ≡ cmp y x → ordering_index r ≤ ordering_index (cmp z x)) [
    | Less ↦ λ e. omega arith
    | Equal ↦ λ e.
        let above : cmp z x ≡ Greater = ap (cmp z) (sym (o.exact y x (sym e))) ∙ reversed cmp o y z Less h in
        rw above (omega arith)
    | Greater ↦ λ e.
        let lower : cmp x z ≡ Less = o.total.trans x y z (reversed cmp o y x Greater (sym e)) h in
        let above : cmp z x ≡ Greater = reversed cmp o x z Less lower in
        rw above (omega arith)
  ] refl

  pub non_decreasing : (x : X) (xs : List X) → IsAscending cmp xs → IsNonDecreasingBy (λ y. ordering_index (cmp y x)) xs
  non_decreasing x [] s i j d h k = absurd (omega arith)
  non_decreasing x (y ∷ ys) s zero zero d h k = omega arith
  non_decreasing x (y ∷ ys) s zero (suc j) d h k = rises x y (get_or ys j d) (below_at y ys j d s.0 (omega arith))
  non_decreasing x (y ∷ ys) s (suc i) zero d h k = absurd (omega arith)
  non_decreasing x (y ∷ ys) s (suc i) (suc j) d h k = non_decreasing x ys s.1 i j d (omega arith) (omega arith)

  -- where the elements before a place are lower and the others higher, an insertion is at that place
  insert_by-at : (x : X) (xs : List X) (k : ℕ) → k ≤ length xs → ((j : ℕ) (d : X) → j < k → cmp (get_or xs j d) x ≡ Less) → ((j : ℕ) (d : X) → k ≤ j → j < length xs → cmp (get_or xs j d) x ≡ Greater) → insert_by cmp xs x ≡ insert xs k x
  insert_by-at x [] zero h lower higher = refl
  insert_by-at x [] (suc k) h lower higher = absurd (omega arith)
  insert_by-at x (y ∷ ys) zero h lower higher =
      let first : cmp x y ≡ Less = reversed cmp o y x Greater (higher 0 y (omega arith) (omega arith)) in
      ap (λ r. match_ordering r (x ∷ y ∷ ys) (y ∷ ys) (y ∷ insert_by cmp ys x)) first
  insert_by-at x (y ∷ ys) (suc k) h lower higher =
      let first : cmp x y ≡ Greater = reversed cmp o y x Less (lower 0 y (omega arith)) in
      ap (λ r. match_ordering r (x ∷ y ∷ ys) (y ∷ ys) (y ∷ insert_by cmp ys x)) first
      ∙ ap (λ l. y ∷ l) (insert_by-at x ys k (omega arith) (λ j d i. lower (suc j) d (omega arith)) (λ j d i l. higher (suc j) d (omega arith) (omega arith)))

  none_at : (x : X) (xs : List X) (k : ℕ) → ((j : ℕ) (d : X) → j < k → cmp (get_or xs j d) x ≡ Less) → ((j : ℕ) (d : X) → k ≤ j → j < length xs → cmp (get_or xs j d) x ≡ Greater) → contains_by cmp xs x ≡ false
  none_at x [] k lower higher = refl
  none_at x (y ∷ ys) zero lower higher =
      rw (higher 0 y (omega arith) (omega arith)) (none_at x ys zero (λ j d i. absurd (omega arith)) (λ j d i l. higher (suc j) d (omega arith) (omega arith)))
  none_at x (y ∷ ys) (suc k) lower higher =
      rw (lower 0 y (omega arith)) (none_at x ys k (λ j d i. lower (suc j) d (omega arith)) (λ j d i l. higher (suc j) d (omega arith) (omega arith)))

  module _ (x : X) (xs : List X) (s : IsAscending cmp xs) where
    -- the search finds exactly what is there
    pub searched : (r : Result ℕ ℕ) → IsSearchInRange r (length xs) → IsBinarySearchResult (λ y. cmp y x) xs r → contains_by cmp xs x ≡ is_ok r
    searched (Ok k) h p = list_any_at (λ y. is_eq (cmp y x)) xs k x h (ap is_eq (p x))
    searched (Err k) h p =
        let parts : IsPartitionPoint (λ y. cmp y x ≡ Less) (λ y. cmp y x ≡ Greater) xs k = p (non_decreasing x xs s) in
        none_at x xs k (λ j d i. parts.0 j d (omega arith) i) (λ j d i l. parts.1 j d i l)

    -- what was found isn't added
    pub searched_kept : (r : Result ℕ ℕ) → IsSearchInRange r (length xs) → IsBinarySearchResult (λ y. cmp y x) xs r → OnOk r (insert_by cmp xs x ≡ xs)
    searched_kept (Ok k) h p = insert_present cmp o xs x s (searched (Ok k) h p)
    searched_kept (Err k) h p = tt

    -- what wasn't found belongs at the place that the search gives
    pub searched_new : (r : Result ℕ ℕ) → IsSearchInRange r (length xs) → IsBinarySearchResult (λ y. cmp y x) xs r → IfErr r (λ k. insert_by cmp xs x ≡ insert xs k x)
    searched_new (Ok k) h p = tt
    searched_new (Err k) h p =
        let parts : IsPartitionPoint (λ y. cmp y x ≡ Less) (λ y. cmp y x ≡ Greater) xs k = p (non_decreasing x xs s) in
        insert_by-at x xs k h (λ j d i. parts.0 j d (omega arith) i) (λ j d i l. parts.1 j d i l)

    pub searched_ascending : (r : Result ℕ ℕ) → IsSearchInRange r (length xs) → IsBinarySearchResult (λ y. cmp y x) xs r → IfErr r (λ k. IsAscending cmp (insert xs k x))
    searched_ascending (Ok k) h p = tt
    searched_ascending (Err k) h p = subst (IsAscending cmp) (searched_new (Err k) h p) (ascending_insert cmp o xs x s)

    -- where the last element is lower, a search would end behind it
    pub searched_behind : (last : X) → Some last ≡ slice_get xs (length xs - 1) → is_lt (cmp last x) ≡ true → IsBinarySearchResult (λ y. cmp y x) xs (Err (length xs))
    searched_behind last e h rise = (λ j d a b. lowest (cmp (get_or xs j d) x) (cmp last x) h (no_later j d b), λ j d a b. absurd (omega arith))
      where
        no_later : (j : ℕ) (d : X) → j < length xs → ordering_index (cmp (get_or xs j d) x) ≤ ordering_index (cmp last x)
        no_later j d b =
            subst (λ y. ordering_index (cmp (get_or xs j d) x) ≤ ordering_index (cmp y x)) (get_or_from_slice_get xs (length xs - 1) last d (sym e)) (rise j (length xs - 1) d (omega arith) (omega arith))
