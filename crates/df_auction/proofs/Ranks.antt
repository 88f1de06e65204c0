-- A list that is sorted by a test, and keeps the order of what ties, is the ranked one.
use Rattle.std.proofs.Common.{◌≡◌, ℕ, suc, ◌≤◌, ◌<◌, Bool, true, false, not, ◌&&◌, cond, List, [], ◌∷◌, length, get_or, refl, sym, ap, subst, ◌∙◌, ⊎_elim, arith, filter, nat_lt}
use Rattle.std.specs.Cmp.{IsStrictWeakOrder}
use Rattle.std.specs.Ordering.{is_lt, nat_cmp}
use Rattle.std.proofs.lemmas.Bool.Decides.{nat_tests}
use Rattle.std.specs.List.Sorted.{IsSortedBy, IsStableBy, ties}
use Rattle.std.proofs.lemmas.List.Sorted.{sorted_far, IsStrictWeakOrder-by_number, IsStrictWeakOrder-flip}
use Rattle.std.proofs.lemmas.Bool.{cases_Bool}
use Rattle.df_auction.specs.Ranking.{put, ranked, asks_less, bids_more}

module _ {X : Type 0} (by : X → X → Bool) (o : IsStrictWeakOrder by) where
  -- none of the lots is better than x
  abbrev pub NoneBetter : X → List X → Type 0
  NoneBetter x [] = Unit {0}
  NoneBetter x (y ∷ ys) = (by y x ≡ false) × NoneBetter x ys

  -- none is better than one before it
  abbrev pub Up : List X → Type 0
  Up [] = Unit {0}
  Up (x ∷ xs) = NoneBetter x xs × Up xs

  none_of : (x : X) (xs : List X) → ((k : ℕ) → k < length xs → by (get_or xs k x) x ≡ false) → NoneBetter x xs
  none_of x [] h = tt
  none_of x (y ∷ ys) h = (h 0 (omega arith), none_of x ys (λ k p. h (suc k) (omega arith)))

  pub up_of : (xs : List X) → ((i j : ℕ) (d : X) → i ≤ j → j < length xs → by (get_or xs j d) (get_or xs i d) ≡ false) → Up xs
  up_of [] h = tt
  up_of (x ∷ xs) h = (none_of x xs (λ k p. h 0 (suc k) x (omega arith) (omega arith)), up_of xs (λ i j d p q. h (suc i) (suc j) d (omega arith) (omega arith)))

  not_itself : (x : X) → by x x ≡ false
  not_itself x = ⊎_elim (λ t. o.one_way x x t) (λ f. f) (cases_Bool (by x x))

  -- who beats y beats whoever is no better than y
  beats : (z w y : X) → by z y ≡ true → by w y ≡ false → by z w ≡ true
  beats z w y p q = ⊎_elim (λ t. t) (λ f. let no : by z y ≡ false = o.chain z w y f q in cc) (cases_Bool (by z w))

  no_tie : (z w : X) → by z w ≡ true → ties by z w ≡ false
  no_tie z w p = ap (λ b. not b && not (by w z)) p

  ties_itself : (x : X) → ties by x x ≡ true
  ties_itself x = ap (λ b. not b && not b) (not_itself x)

  none_ties : (z y : X) → by z y ≡ true → (ws : List X) → NoneBetter y ws → filter (ties by z) ws ≡ []
  none_ties z y p [] h = refl
  none_ties z y p (w ∷ ws) h = rw (no_tie z w (beats z w y p h.0)) (none_ties z y p ws h.1)

  keeps_itself : (x : X) (xs : List X) → filter (ties by x) (x ∷ xs) ≡ x ∷ filter (ties by x) xs
  keeps_itself x xs = ap (λ b. cond b (x ∷ filter (ties by x) xs) (filter (ties by x) xs)) (ties_itself x)

  not_before : (y z : X) (ys zs : List X) → NoneBetter y ys → filter (ties by z) (y ∷ ys) ≡ filter (ties by z) (z ∷ zs) → by z y ≡ false
  not_before y z ys zs up h = ⊎_elim
      (λ t. let e = none_ties z y t (y ∷ ys) (not_itself y, up) in let f = keeps_itself z zs in cc)
      (λ f. f) (cases_Bool (by z y))

  tail_of : (x : X) (xs ys : List X) (b : Bool) → cond b (x ∷ xs) xs ≡ cond b (x ∷ ys) ys → xs ≡ ys
  tail_of x xs ys true h = cc
  tail_of x xs ys false h = h

  same_ties : (y z : X) (ys zs : List X) → filter (ties by y) (y ∷ ys) ≡ filter (ties by y) (z ∷ zs) → ties by y z ≡ true → y ≡ z
  same_ties y z ys zs h t =
      let e = keeps_itself y ys in
      let f : filter (ties by y) (z ∷ zs) ≡ z ∷ filter (ties by y) zs = ap (λ b. cond b (z ∷ filter (ties by y) zs) (filter (ties by y) zs)) t in
      cc

  -- two lists in order that tie alike are one
  pub one_order : (ys zs : List X) → Up ys → Up zs → ((x : X) → filter (ties by x) ys ≡ filter (ties by x) zs) → ys ≡ zs
  one_order [] [] u v h = refl
  one_order [] (z ∷ zs) u v h = let e = keeps_itself z zs in let f = h z in absurd cc
  one_order (y ∷ ys) [] u v h = let e = keeps_itself y ys in let f = h y in absurd cc
  one_order (y ∷ ys) (z ∷ zs) u v h =
      let a : by z y ≡ false = not_before y z ys zs u.0 (h z) in
      let b : by y z ≡ false = not_before z y zs ys v.0 (sym (h y)) in
      let t : ties by y z ≡ true = (λ i. not (b i) && not (a i)) in
      let e : y ≡ z = same_ties y z ys zs (h y) t in
      let rest : ys ≡ zs = one_order ys zs u.1 v.1 (λ x. tail_of y (filter (ties by x) ys) (filter (ties by x) zs) (ties by x y) (h x ∙ ap (λ w. filter (ties by x) (w ∷ zs)) (sym e))) in
      cc

  none_put : (x y : X) (ys : List X) → by x y ≡ false → NoneBetter y ys → NoneBetter y (put by x ys)
  none_put x y [] p h = (p, tt)
  none_put x y (z ∷ zs) p h = go (by z x) (none_put x y zs p h.1)
    where
      go : (b : Bool) → NoneBetter y (put by x zs) → NoneBetter y (cond b (z ∷ put by x zs) (x ∷ z ∷ zs))
      go true r = (h.0, r)
      go false r = (p, h)

  none_through : (x y : X) (ys : List X) → by y x ≡ false → NoneBetter y ys → NoneBetter x ys
  none_through x y [] p h = tt
  none_through x y (z ∷ zs) p h = (o.chain z y x h.0 p, none_through x y zs p h.1)

  up_put : (x : X) (ys : List X) → Up ys → Up (put by x ys)
  up_put x [] h = (tt, tt)
  up_put x (y ∷ ys) h = ⊎_elim
      (λ t. subst (λ b. Up (cond b (y ∷ put by x ys) (x ∷ y ∷ ys))) (sym t) (none_put x y ys (o.one_way y x t) h.0, up_put x ys h.1))
      (λ f. subst (λ b. Up (cond b (y ∷ put by x ys) (x ∷ y ∷ ys))) (sym f) ((f, none_through x y ys f h.0), h))
      (cases_Bool (by y x))

  pub up_ranked : (xs : List X) → Up (ranked by xs)
  up_ranked [] = tt
  up_ranked (x ∷ xs) = up_put x (ranked by xs) (up_ranked xs)

  -- of two of which one is better only one ties with a third
  not_both : (w x y : X) → by y x ≡ true → ties by w x ≡ true → ties by w y ≡ false
  not_both w x y p q = ⊎_elim
      (λ t. no_tie w y t)
      (λ f. let g = beats y w x p (tie_low w x q) in ap (λ b. not (by w y) && not b) g ∙ and_false (not (by w y)))
      (cases_Bool (by w y))
    where
      and_false : (b : Bool) → b && false ≡ false
      and_false true = refl
      and_false false = refl

      low : (a b : Bool) → not a && not b ≡ true → a ≡ false
      low true b h = sym h
      low false b h = refl

      tie_low : (w x : X) → ties by w x ≡ true → by w x ≡ false
      tie_low w x h = low (by w x) (by x w) h

  swapped : (p : X → Bool) (x y : X) (ys : List X) → (p x ≡ true → p y ≡ false) → filter p (y ∷ x ∷ ys) ≡ filter p (x ∷ y ∷ ys)
  swapped p x y ys h = go (p x) (p y) h
    where
      go : (a b : Bool) → (a ≡ true → b ≡ false) → cond b (y ∷ cond a (x ∷ filter p ys) (filter p ys)) (cond a (x ∷ filter p ys) (filter p ys)) ≡ cond a (x ∷ cond b (y ∷ filter p ys) (filter p ys)) (cond b (y ∷ filter p ys) (filter p ys))
      go true true h = let e = h refl in absurd cc
      go true false h = refl
      go false true h = refl
      go false false h = refl

  put_ties : (w x : X) (ys : List X) → filter (ties by w) (put by x ys) ≡ filter (ties by w) (x ∷ ys)
  put_ties w x [] = refl
  put_ties w x (y ∷ ys) = ⊎_elim
      (λ t. ap (λ b. filter (ties by w) (cond b (y ∷ put by x ys) (x ∷ y ∷ ys))) t
      ∙ (ap (λ l. cond (ties by w y) (y ∷ l) l) (put_ties w x ys) ∙ swapped (ties by w) x y ys (λ q. not_both w x y t q)))
      (λ f. ap (λ b. filter (ties by w) (cond b (y ∷ put by x ys) (x ∷ y ∷ ys))) f)
      (cases_Bool (by y x))

  ranked_ties : (w : X) (xs : List X) → filter (ties by w) (ranked by xs) ≡ filter (ties by w) xs
  ranked_ties w [] = refl
  ranked_ties w (x ∷ xs) = put_ties w x (ranked by xs) ∙ ap (λ l. cond (ties by w x) (x ∷ l) l) (ranked_ties w xs)

  -- what a stable sort makes is the ranked list
  pub sort_ranks : (xs ys : List X) → IsSortedBy by ys → IsStableBy by xs ys → ys ≡ ranked by xs
  sort_ranks xs ys sorted stable = one_order ys (ranked by xs) (up_of ys (sorted_far by o ys sorted)) (up_ranked xs) (λ w. stable w ∙ sym (ranked_ties w xs))

-- whether a comparison says less
pub less_is : (a b : ℕ) → is_lt (nat_cmp a b) ≡ nat_lt a b
less_is a b = grind (arith, nat_tests)

-- the tests of the two rankings are orders
pub asks_order : IsStrictWeakOrder asks_less
asks_order = IsStrictWeakOrder-by_number (λ x. x.limit)

pub bids_order : IsStrictWeakOrder bids_more
bids_order = IsStrictWeakOrder-flip asks_less (IsStrictWeakOrder-by_number (λ x. x.limit))
