-- What a binary search of the seats tells, and one more seat.
use Rattle.df_roll.proofs.Names.{◌≡◌, ℕ, zero, suc, ◌<◌, ◌≤◌, Bool, true, false, if◌then◌else◌, List, [], ◌∷◌, get_or, length, Option, Some, None, Result, Ok, Err, IfOk, IfErr, refl, ap, sym, subst, ◌∙◌, arith, length-map, insert, IsBinarySearchResult, IsNonDecreasingBy, IsPartitionPoint, IsSearchInRange, option_or, is_some, is_eq, ordering_index, Less, Equal, Greater, IsAscending, IsBelow, same, unit_cmp, unit_cmp_ties, UnitName, unit_cmp_exact, names_in, seat_of, Seat}
use Rattle.std.proofs.Math.ListN.{get_or-map}
use Rattle.df_label.proofs.PlaceFacts.{non_decreasing, searched_ascending}
use Rattle.df_unit.proofs.SameFacts.{same_name-exact}

abbrev name : Seat → UnitName
name s = s.unit

pub below_at : (n : UnitName) (ss : List Seat) (k : ℕ) (d : Seat) → IsBelow unit_cmp n (names_in ss) → k < length ss → unit_cmp n (get_or ss k d).unit ≡ Less
below_at n [] k d b h = absurd (omega arith)
below_at n (s ∷ ss) zero d b h = b.0
below_at n (s ∷ ss) (suc k) d b h = below_at n ss k d b.1 (omega arith)

-- what stands at a place among the names is the name of the seat there
named_at : (ss : List Seat) (k : ℕ) (n : UnitName) (d : Seat) → k < length ss → get_or (names_in ss) k n ≡ (get_or ss k d).unit
named_at [] k n d h = absurd (omega arith)
named_at (s ∷ ss) zero n d h = refl
named_at (s ∷ ss) (suc k) n d h = named_at ss k n d (omega arith)

module _ (a : UnitName) where
  -- comparisons with the unit rise along the seats
  pub rises : (ss : List Seat) → IsAscending unit_cmp (names_in ss) → IsNonDecreasingBy (λ s. ordering_index (unit_cmp s.unit a)) ss
  rises ss order i j d h k =
      let below : j < length (names_in ss) = rw (length-map ss name) k in
      let at = non_decreasing unit_cmp unit_cmp_exact a (names_in ss) order i j d.unit h below in
      rw (get_or-map name ss i d, get_or-map name ss j d) at at

  -- the seat that is the unit's is the first that is
  pub found_at : (ss : List Seat) (k : ℕ) (d : Seat) → IsAscending unit_cmp (names_in ss) → k < length ss → unit_cmp (get_or ss k d).unit a ≡ Equal → seat_of a ss ≡ Some (get_or ss k d).place
  found_at [] k d order h e = absurd (omega arith)
  found_at (s ∷ ss) zero d order h e = rw (unit_cmp_ties s.unit a ∙ ap is_eq e) refl
  found_at (s ∷ ss) (suc k) d order h e =
      let this : (get_or ss k d).unit ≡ a = unit_cmp_exact.exact (get_or ss k d).unit a e in
      let lower : unit_cmp s.unit a ≡ Less = subst (λ n. unit_cmp s.unit n ≡ Less) this (below_at s.unit ss k d order.0 (omega arith)) in
      rw (unit_cmp_ties s.unit a ∙ ap is_eq lower) (found_at ss k d order.1 (omega arith) e)

  -- no seat is the unit's where some are lower and the others higher
  none_between : (ss : List Seat) (k : ℕ) → ((j : ℕ) (d : Seat) → j < k → unit_cmp (get_or ss j d).unit a ≡ Less) → ((j : ℕ) (d : Seat) → k ≤ j → j < length ss → unit_cmp (get_or ss j d).unit a ≡ Greater) → seat_of a ss ≡ None
  none_between [] k lower higher = refl
  none_between (s ∷ ss) zero lower higher =
      rw (unit_cmp_ties s.unit a ∙ ap is_eq (higher 0 s (omega arith) (omega arith))) (none_between ss zero (λ j d i. absurd (omega arith)) (λ j d i l. higher (suc j) d (omega arith) (omega arith)))
  none_between (s ∷ ss) (suc k) lower higher =
      rw (unit_cmp_ties s.unit a ∙ ap is_eq (lower 0 s (omega arith))) (none_between ss k (λ j d i. lower (suc j) d (omega arith)) (λ j d i l. higher (suc j) d (omega arith) (omega arith)))

  module _ (ss : List Seat) (order : IsAscending unit_cmp (names_in ss)) (k : ℕ) where
    pub found : (d : Seat) → k < length ss → ((e : Seat) → unit_cmp (get_or ss k e).unit a ≡ Equal) → seat_of a ss ≡ Some (get_or ss k d).place
    found d h p = found_at ss k d order h (p d)

    module _ (p : IsNonDecreasingBy (λ s. ordering_index (unit_cmp s.unit a)) ss → IsPartitionPoint (λ (s : Seat). unit_cmp s.unit a ≡ Less) (λ (s : Seat). unit_cmp s.unit a ≡ Greater) ss k) (h : k ≤ length ss) where
      -- a unit that isn't found has no seat
      pub absent : seat_of a ss ≡ None
      absent = let parts = p (rises ss order) in none_between ss k (λ j d i. parts.0 j d (omega arith) i) (λ j d i l. parts.1 j d i l)

      -- and belongs at the place that the search gives
      pub between : IsAscending unit_cmp (insert (names_in ss) k a)
      between =
          let parts = p (rises ss order) in
          let size = length-map ss name in
          searched_ascending unit_cmp unit_cmp_exact a (names_in ss) order (Err k) (omega (arith, size, h))
          (λ rising. (
            λ j n i l. let d = seat n in subst (λ (m : UnitName). unit_cmp m a ≡ Less) (sym (named_at ss j n d (omega (arith, l, h)))) (parts.0 j d i l),
            λ j n i l. let d = seat n in let w : j < length ss = omega (arith, size, l) in subst (λ (m : UnitName). unit_cmp m a ≡ Greater) (sym (named_at ss j n d w)) (parts.1 j d i w),
          ))
        where
          seat : UnitName → Seat
          seat n = record { unit = n; place = 0 }

-- one more seat, of a unit that had none
pub seat_of-insert : (n : UnitName) (ss : List Seat) (k : ℕ) (s : Seat) → seat_of s.unit ss ≡ None → k ≤ length ss → seat_of n (insert ss k s) ≡ option_or (seat_of n ss) (if same s.unit n then Some s.place else None)
seat_of-insert n [] zero s none h = refl
seat_of-insert n [] (suc k) s none h = absurd (omega arith)
seat_of-insert n (t ∷ ss) zero s none h = by (same s.unit n) refl
  where
    alone : (o : Option ℕ) → o ≡ option_or o None
    alone None = refl
    alone (Some k) = refl

    by : (p : Bool) → same s.unit n ≡ p → (if p then Some s.place else seat_of n (t ∷ ss)) ≡ option_or (seat_of n (t ∷ ss)) (if p then Some s.place else None)
    by true e =
        let gone : seat_of n (t ∷ ss) ≡ None = subst (λ (m : UnitName). seat_of m (t ∷ ss) ≡ None) (same_name-exact s.unit n e) none in
        ap (λ (o : Option ℕ). option_or o (Some s.place)) (sym gone)
    by false e = alone (seat_of n (t ∷ ss))
seat_of-insert n (t ∷ ss) (suc k) s none h =
    ap (λ (o : Option ℕ). if same t.unit n then Some t.place else o) (seat_of-insert n ss k s (rest (same t.unit s.unit) (seat_of s.unit ss) none) (omega arith))
    ∙ by (same t.unit n) (seat_of n ss) (if same s.unit n then Some s.place else None)
  where
    rest : (b : Bool) (o : Option ℕ) → (if b then Some t.place else o) ≡ None → o ≡ None
    rest true o e = absurd (let z : ⊥ = cc in z)
    rest false o e = e

    by : (b : Bool) (o p : Option ℕ) → (if b then Some t.place else option_or o p) ≡ option_or (if b then Some t.place else o) p
    by true o p = refl
    by false o p = refl

-- the names with one more seat
pub names_in-insert : (ss : List Seat) (k : ℕ) (s : Seat) → names_in (insert ss k s) ≡ insert (names_in ss) k s.unit
names_in-insert ss zero s = refl
names_in-insert [] (suc k) s = refl
names_in-insert (t ∷ ss) (suc k) s = ap (λ (ns : List UnitName). t.unit ∷ ns) (names_in-insert ss k s)

-- what a search of the seats tells
pub record Searched (a : UnitName) (ss : List Seat) (r : Result ℕ ℕ) : Type 0 where
  pub found : IfOk r (λ k. (d : Seat) → seat_of a ss ≡ Some (get_or ss k d).place)
  pub absent : IfErr r (λ k. seat_of a ss ≡ None)
  pub between : IfErr r (λ k. IsAscending unit_cmp (insert (names_in ss) k a))

pub searched : (a : UnitName) (ss : List Seat) → IsAscending unit_cmp (names_in ss) → (r : Result ℕ ℕ) → IsSearchInRange r (length ss) → IsBinarySearchResult (λ s. unit_cmp s.unit a) ss r → Searched a ss r
searched a ss order (Ok k) h p = record { found = λ d. found a ss order k d h p; absent = tt; between = tt }
searched a ss order (Err k) h p = record { found = tt; absent = absent a ss order k p h; between = between a ss order k p h }

-- a unit that has a seat keeps it
pub held : (n a : UnitName) (ss : List Seat) (k : ℕ) → is_some (seat_of a ss) ≡ true → seat_of n ss ≡ option_or (seat_of n ss) (if same a n then Some k else None)
held n a ss k h = by (same a n) refl
  where
    alone : (o : Option ℕ) → o ≡ option_or o None
    alone None = refl
    alone (Some i) = refl

    kept : (o : Option ℕ) → is_some o ≡ true → o ≡ option_or o (Some k)
    kept None e = absurd (let z : ⊥ = cc in z)
    kept (Some i) e = refl

    by : (b : Bool) → same a n ≡ b → seat_of n ss ≡ option_or (seat_of n ss) (if b then Some k else None)
    by true e = kept (seat_of n ss) (subst (λ (m : UnitName). is_some (seat_of m ss) ≡ true) (same_name-exact a n e) h)
    by false e = alone (seat_of n ss)
