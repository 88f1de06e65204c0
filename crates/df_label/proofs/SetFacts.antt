-- Ascending lists are sets: what inserting and choosing do to membership and order, for any total order.
use Rattle.std.proofs.Common.{◌≡◌, Bool, true, false, not, cond, ◌&&◌, ◌||◌, List, [], ◌∷◌, ◌++◌, refl, ap, sym, ◌∙◌, subst, append_assoc, Some, is_some}
use Rattle.std.proofs.lemmas.Bool.{true≢false, and_parts}
use Rattle.std.specs.declared.cmp.Ordering.{Ordering}
use Rattle.std.specs.declared.cmp.Ordering.TheVariants.{Less, Equal, Greater}
use Rattle.std.specs.Ordering.{match_ordering, ordering_reverse, is_eq, eq_by_cmp}
use Rattle.std.specs.Cmp.{IsTotalOrder, tied_itself}
use Rattle.std.specs.Bool.{Decides}
use Rattle.std.specs.List.{filter, find, list_all}
use Rattle.df_label.specs.Ascending.{IsBelow, IsAscending, contains_by, insert_by}

-- a total order in which only equal elements tie
pub record IsExactOrder {X : Type 0} (cmp : X → X → Ordering) : Type 0 where
  pub total : IsTotalOrder cmp
  pub exact : (x y : X) → cmp x y ≡ Equal → x ≡ y

module _ {X : Type 0} (cmp : X → X → Ordering) (o : IsExactOrder cmp) where
  pub reversed : (x y : X) (r : Ordering) → cmp x y ≡ r → cmp y x ≡ ordering_reverse r
  reversed x y r h = o.total.antisymm y x ∙ ap ordering_reverse h

  -- the test by an order tells equal elements
  pub eq_by_cmp-Decides : (x y : X) → Decides (eq_by_cmp cmp x y) (x ≡ y)
  eq_by_cmp-Decides x y = (tells, λ e. subst (λ z. is_eq (cmp x z) ≡ true) e (ap is_eq (tied_itself o.total x)))
    where
      tells : is_eq (cmp x y) ≡ true → x ≡ y
      tells = elim (cmp x y) as (λ r. r ≡ cmp x y → is_eq r ≡ true → x ≡ y) [
        | Less ↦ λ e h. absurd (true≢false (sym h))
        | Equal ↦ λ e h. o.exact x y (sym e)
        | Greater ↦ λ e h. absurd (true≢false (sym h))
      ] refl

  pub below_trans : (x y : X) (ys : List X) → cmp x y ≡ Less → IsBelow cmp y ys → IsBelow cmp x ys
  below_trans x y [] h b = tt
  below_trans x y (z ∷ zs) h b = (o.total.trans x y z h b.0, below_trans x y zs h b.1)

  below_insert : (x y : X) (ys : List X) → cmp x y ≡ Less → IsBelow cmp x ys → IsBelow cmp x (insert_by cmp ys y)
  below_insert x y [] h b = (h, tt)
  below_insert x y (z ∷ zs) h b =
      elim (cmp y z) as (λ r. IsBelow cmp x (match_ordering r (y ∷ z ∷ zs) (z ∷ zs) (z ∷ insert_by cmp zs y))) [
        | Less ↦ (h, b)
        | Equal ↦ b
        | Greater ↦ (b.0, below_insert x y zs h b.1)
      ]

  -- an insertion keeps a list ascending
  pub ascending_insert : (xs : List X) (x : X) → IsAscending cmp xs → IsAscending cmp (insert_by cmp xs x)
  ascending_insert [] x s = (tt, tt)
  ascending_insert (y ∷ ys) x s =
      elim (cmp x y) as (λ r. r ≡ cmp x y → IsAscending cmp (match_ordering r (x ∷ y ∷ ys) (y ∷ ys) (y ∷ insert_by cmp ys x))) [
        | Less ↦ λ e. ((sym e, below_trans x y ys (sym e) s.0), s)
        | Equal ↦ λ e. s
        | Greater ↦ λ e. (below_insert y x ys (reversed x y Greater (sym e)) s.0, ascending_insert ys x s.1)
      ] refl

  below_filter : (p : X → Bool) (x : X) (xs : List X) → IsBelow cmp x xs → IsBelow cmp x (filter p xs)
  below_filter p x [] b = tt
  below_filter p x (y ∷ ys) b =
      elim (p y) as (λ c. IsBelow cmp x (cond c (y ∷ filter p ys) (filter p ys))) [
        | true ↦ (b.0, below_filter p x ys b.1)
        | false ↦ below_filter p x ys b.1
      ]

  -- a choice keeps a list ascending
  pub ascending_filter : (p : X → Bool) (xs : List X) → IsAscending cmp xs → IsAscending cmp (filter p xs)
  ascending_filter p [] s = tt
  ascending_filter p (x ∷ xs) s =
      elim (p x) as (λ c. IsAscending cmp (cond c (x ∷ filter p xs) (filter p xs))) [
        | true ↦ (below_filter p x xs s.0, ascending_filter p xs s.1)
        | false ↦ ascending_filter p xs s.1
      ]

  -- what comes before each of these is none of them
  pub contains-below : (x : X) (xs : List X) → IsBelow cmp x xs → contains_by cmp xs x ≡ false
  contains-below x [] b = refl
  contains-below x (y ∷ ys) b = rw (reversed x y Less b.0) (contains-below x ys b.1)

  -- what comes before all of these comes before each
  pub below-contained : (x : X) (ys : List X) (z : X) → IsBelow cmp x ys → contains_by cmp ys z ≡ true → cmp x z ≡ Less
  below-contained x [] z b h = absurd (true≢false (sym h))
  below-contained x (y ∷ ys) z b h =
      elim (cmp y z) as (λ r. r ≡ cmp y z → (is_eq r || contains_by cmp ys z) ≡ true → cmp x z ≡ Less) [
        | Less ↦ λ e k. below-contained x ys z b.1 k
        | Equal ↦ λ e k. ap (cmp x) (sym (o.exact y z (sym e))) ∙ b.0
        | Greater ↦ λ e k. below-contained x ys z b.1 k
      ] refl h

  -- each is one of its own list
  pub contains-itself : (x : X) (xs : List X) → contains_by cmp (x ∷ xs) x ≡ true
  contains-itself x xs = ap (λ r. is_eq r || contains_by cmp xs x) (tied_itself o.total x)

  or_again : (a b : Bool) → (a || b) ≡ (a || (a || b))
  or_again true b = refl
  or_again false b = refl

  or_swapped : (a b c : Bool) → (a || (b || c)) ≡ (b || (a || c))
  or_swapped true true c = refl
  or_swapped true false c = refl
  or_swapped false true c = refl
  or_swapped false false c = refl

  -- an insertion adds the one element
  pub contains-insert : (xs : List X) (x z : X) → contains_by cmp (insert_by cmp xs x) z ≡ (is_eq (cmp x z) || contains_by cmp xs z)
  contains-insert [] x z = refl
  contains-insert (y ∷ ys) x z =
      elim (cmp x y) as (λ r. r ≡ cmp x y → contains_by cmp (match_ordering r (x ∷ y ∷ ys) (y ∷ ys) (y ∷ insert_by cmp ys x)) z ≡ (is_eq (cmp x z) || (is_eq (cmp y z) || contains_by cmp ys z))) [
        | Less ↦ λ e. refl
        | Equal ↦ λ e. or_again (is_eq (cmp y z)) (contains_by cmp ys z) ∙ ap (λ r. is_eq r || (is_eq (cmp y z) || contains_by cmp ys z)) (sym (o.total.congr x y z (sym e)))
        | Greater ↦ λ e. ap (λ c. is_eq (cmp y z) || c) (contains-insert ys x z) ∙ or_swapped (is_eq (cmp y z)) (is_eq (cmp x z)) (contains_by cmp ys z)
      ] refl

  and_false : (a : Bool) → (a && false) ≡ false
  and_false true = refl
  and_false false = refl

  -- a choice keeps what passes
  pub contains-filter : (p : X → Bool) (xs : List X) (z : X) → contains_by cmp (filter p xs) z ≡ (contains_by cmp xs z && p z)
  contains-filter p [] z = refl
  contains-filter p (y ∷ ys) z = chosen (cmp y z) (p y) refl refl (contains-filter p ys z)
    where
      chosen : (r : Ordering) (b : Bool) → r ≡ cmp y z → b ≡ p y → contains_by cmp (filter p ys) z ≡ (contains_by cmp ys z && p z) → contains_by cmp (cond b (y ∷ filter p ys) (filter p ys)) z ≡ ((is_eq (cmp y z) || contains_by cmp ys z) && p z)
      chosen Equal true e h ih =
          let passes : p z ≡ true = ap p (sym (o.exact y z (sym e))) ∙ sym h in
          (λ i. is_eq (sym e i) || contains_by cmp (filter p ys) z) ∙ sym (λ i. (is_eq (sym e i) || contains_by cmp ys z) && passes i)
      chosen Equal false e h ih =
          let fails : p z ≡ false = ap p (sym (o.exact y z (sym e))) ∙ sym h in
          ih ∙ ap (λ q. contains_by cmp ys z && q) fails ∙ and_false (contains_by cmp ys z)
          ∙ sym (λ i. (is_eq (sym e i) || contains_by cmp ys z) && fails i)
      chosen Less true e h ih =
          (λ i. is_eq (sym e i) || contains_by cmp (filter p ys) z) ∙ ih ∙ sym (λ i. (is_eq (sym e i) || contains_by cmp ys z) && p z)
      chosen Less false e h ih = ih ∙ sym (λ i. (is_eq (sym e i) || contains_by cmp ys z) && p z)
      chosen Greater true e h ih =
          (λ i. is_eq (sym e i) || contains_by cmp (filter p ys) z) ∙ ih ∙ sym (λ i. (is_eq (sym e i) || contains_by cmp ys z) && p z)
      chosen Greater false e h ih = ih ∙ sym (λ i. (is_eq (sym e i) || contains_by cmp ys z) && p z)

  -- what one of two lists has behind an element that comes before all of both, the other has too
  same_tails : (x : X) (xs ys : List X) (z : X) → IsBelow cmp x xs → IsBelow cmp x ys → contains_by cmp (x ∷ xs) z ≡ contains_by cmp (x ∷ ys) z → contains_by cmp xs z ≡ contains_by cmp ys z
  same_tails x xs ys z s t h =
      elim (cmp x z) as (λ r. r ≡ cmp x z → contains_by cmp xs z ≡ contains_by cmp ys z) [
        | Less ↦ λ q. (λ i. is_eq (q i) || contains_by cmp xs z) ∙ h ∙ (λ i. is_eq (sym q i) || contains_by cmp ys z)
        | Equal ↦ λ q. subst (λ w. contains_by cmp xs w ≡ contains_by cmp ys w) (o.exact x z (sym q)) (contains-below x xs s ∙ sym (contains-below x ys t))
        | Greater ↦ λ q. (λ i. is_eq (q i) || contains_by cmp xs z) ∙ h ∙ (λ i. is_eq (sym q i) || contains_by cmp ys z)
      ] refl

  -- two ascending lists with the same elements are equal
  pub same_elements : (xs ys : List X) → IsAscending cmp xs → IsAscending cmp ys → ((z : X) → contains_by cmp xs z ≡ contains_by cmp ys z) → xs ≡ ys
  same_elements [] [] s t h = refl
  same_elements [] (y ∷ ys) s t h = absurd (true≢false (sym (h y ∙ contains-itself y ys)))
  same_elements (x ∷ xs) [] s t h = absurd (true≢false (sym (contains-itself x xs) ∙ h x))
  same_elements (x ∷ xs) (y ∷ ys) s t h =
      elim (cmp x y) as (λ r. r ≡ cmp x y → x ∷ xs ≡ y ∷ ys) [
        | Less ↦ λ e. absurd (true≢false (sym (contains-itself x xs) ∙ h x ∙ contains-below x (y ∷ ys) (sym e, below_trans x y ys (sym e) t.0)))
        | Equal ↦ λ e.
            let same : x ≡ y = o.exact x y (sym e) in
            let below : IsBelow cmp x ys = subst (λ w. IsBelow cmp w ys) (sym same) t.0 in
            let tails : (z : X) → contains_by cmp xs z ≡ contains_by cmp ys z = λ z. same_tails x xs ys z s.0 below (h z ∙ ap (λ w. contains_by cmp (w ∷ ys) z) (sym same)) in
            let rest : xs ≡ ys = same_elements xs ys s.1 t.1 tails in
            λ i. same i ∷ rest i
        | Greater ↦ λ e. let b : cmp y x ≡ Less = reversed x y Greater (sym e) in absurd (true≢false (sym (contains-itself y ys) ∙ sym (h y) ∙ contains-below y (x ∷ xs) (b, below_trans y x xs b s.0)))
      ] refl

  -- an element that is there is not added
  pub insert_present : (xs : List X) (x : X) → IsAscending cmp xs → contains_by cmp xs x ≡ true → insert_by cmp xs x ≡ xs
  insert_present xs x s h = same_elements (insert_by cmp xs x) xs (ascending_insert xs x s) s (λ z. contains-insert xs x z ∙ known z)
    where
      known : (z : X) → (is_eq (cmp x z) || contains_by cmp xs z) ≡ contains_by cmp xs z
      known z = elim (cmp x z) as (λ r. r ≡ cmp x z → (is_eq r || contains_by cmp xs z) ≡ contains_by cmp xs z) [
        | Less ↦ λ e. refl
        | Equal ↦ λ e. sym (ap (contains_by cmp xs) (sym (o.exact x z (sym e))) ∙ h)
        | Greater ↦ λ e. refl
      ] refl

  below-push : (z x y : X) (xs : List X) → IsBelow cmp z (xs ++ x ∷ []) → cmp x y ≡ Less → IsBelow cmp z ((xs ++ x ∷ []) ++ y ∷ [])
  below-push z x y [] b h = (b.0, (o.total.trans z x y b.0 h, tt))
  below-push z x y (w ∷ ws) b h = (b.0, below-push z x y ws b.1 h)

  -- an ascending list goes on with what comes after its last element
  pub ascending-push : (xs : List X) (x y : X) → IsAscending cmp (xs ++ x ∷ []) → cmp x y ≡ Less → IsAscending cmp ((xs ++ x ∷ []) ++ y ∷ [])
  ascending-push [] x y s h = ((h, tt), (tt, tt))
  ascending-push (z ∷ zs) x y s h = (below-push z x y zs s.0 h, ascending-push zs x y s.1 h)

  -- what follows the first element of an ascending list is ascending
  pub ascending-tail : (xs ys : List X) (x : X) → xs ≡ x ∷ ys → IsAscending cmp xs → IsAscending cmp ys
  ascending-tail xs ys x e s = (subst (IsAscending cmp) e s).1

-- one more element was written, and the rest is that much shorter
pub written_more : {X : Type 0} (all more rest less whole : List X) (x y : X) → more ≡ all ++ y ∷ [] → y ≡ x → rest ≡ x ∷ less → all ++ rest ≡ whole → more ++ less ≡ whole
written_more all more rest less whole x y m e r w = (λ i. m i ++ less) ∙ append_assoc all (y ∷ []) less ∙ (λ i. all ++ e i ∷ less) ∙ ap (λ l. all ++ l) (sym r) ∙ w

-- a choice that every element passes keeps all
pub filter_all : {X : Type 0} (p : X → Bool) (xs : List X) → list_all p xs ≡ true → filter p xs ≡ xs
filter_all p [] h = refl
filter_all p (x ∷ xs) h =
    let both : (p x ≡ true) × (list_all p xs ≡ true) = and_parts (p x) (list_all p xs) h in
    λ i. cond (both.0 i) (x ∷ filter_all p xs both.1 i) (filter_all p xs both.1 i)

-- nothing fails a test exactly where all pass it
pub is_some-find_not : {X : Type 0} (p : X → Bool) (xs : List X) → is_some (find (λ x. not (p x)) xs) ≡ not (list_all p xs)
is_some-find_not p [] = refl
is_some-find_not p (x ∷ xs) =
    elim (p x) as (λ b. is_some (cond (not b) (Some x) (find (λ x. not (p x)) xs)) ≡ not (b && list_all p xs)) [ true ↦ is_some-find_not p xs | false ↦ refl ]
