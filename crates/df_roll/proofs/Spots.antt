-- In which chunk a unit's seat is, or would be.
use Rattle.df_roll.proofs.Names.{◌≡◌, ℕ, zero, suc, ◌+◌, ◌<◌, ◌≤◌, List, [], ◌∷◌, ◌++◌, take, drop, get_or, length, Option, Some, None, Err, if◌then◌else◌, refl, ap, sym, subst, ◌∙◌, arith, get_or-append-add, get_or_append_left, length-append, length-map, map-append, insert, IsBinarySearchResult, IsNonDecreasingBy, IsPartitionPoint, is_eq, ordering_index, Less, Equal, Greater, IsAscending, IsBelow, same, unit_cmp, unit_cmp_ties, UnitName, unit_cmp_exact, AreFilled, AreOrdered, IsAbove, first_cmp, joined, place_in, names_in, seat_of, Seat}
use Rattle.std.specs.Cmp.{tied_itself}
use Rattle.df_label.proofs.SetFacts.{below_trans, reversed}
use Rattle.df_roll.proofs.Joining.{insert-middle, joined-parts}
use Rattle.df_roll.proofs.Seating.{below_at, found_at, rises}

-- what is said of lists behind one another

below_left : (n : UnitName) (xs ys : List Seat) → IsBelow unit_cmp n (names_in (xs ++ ys)) → IsBelow unit_cmp n (names_in xs)
below_left n [] ys b = tt
below_left n (x ∷ xs) ys b = (b.0, below_left n xs ys b.1)

below_right : (n : UnitName) (xs ys : List Seat) → IsBelow unit_cmp n (names_in (xs ++ ys)) → IsBelow unit_cmp n (names_in ys)
below_right n [] ys b = b
below_right n (x ∷ xs) ys b = below_right n xs ys b.1

ascending_left : (xs ys : List Seat) → IsAscending unit_cmp (names_in (xs ++ ys)) → IsAscending unit_cmp (names_in xs)
ascending_left [] ys o = tt
ascending_left (x ∷ xs) ys o = (below_left x.unit xs ys o.0, ascending_left xs ys o.1)

ascending_right : (xs ys : List Seat) → IsAscending unit_cmp (names_in (xs ++ ys)) → IsAscending unit_cmp (names_in ys)
ascending_right [] ys o = o
ascending_right (x ∷ xs) ys o = ascending_right xs ys o.1

above_append : (n : UnitName) (xs ys : List Seat) → IsAbove n (names_in xs) → IsAbove n (names_in ys) → IsAbove n (names_in (xs ++ ys))
above_append n [] ys f g = g
above_append n (x ∷ xs) ys f g = (f.0, above_append n xs ys f.1 g)

-- the first seats of chunks

abbrev pub heads : List (List Seat) → List Seat
heads [] = []
heads ([] ∷ cs) = heads cs
heads ((s ∷ ss) ∷ cs) = s ∷ heads cs

below_heads : (n : UnitName) (cs : List (List Seat)) → IsBelow unit_cmp n (names_in (joined cs)) → IsBelow unit_cmp n (names_in (heads cs))
below_heads n [] b = tt
below_heads n ([] ∷ cs) b = below_heads n cs b
below_heads n ((s ∷ ss) ∷ cs) b = (b.0, below_heads n cs (below_right n ss (joined cs) b.1))

ascending_heads : (cs : List (List Seat)) → IsAscending unit_cmp (names_in (joined cs)) → IsAscending unit_cmp (names_in (heads cs))
ascending_heads [] o = tt
ascending_heads ([] ∷ cs) o = ascending_heads cs o
ascending_heads ((s ∷ ss) ∷ cs) o = (below_heads s.unit cs (below_right s.unit ss (joined cs) o.0), ascending_heads cs (ascending_right ss (joined cs) o.1))

length-heads : (cs : List (List Seat)) → AreFilled cs → length (heads cs) ≡ length cs
length-heads [] f = refl
length-heads ([] ∷ cs) f = absurd (let z : 0 < 0 = f.0 in omega arith)
length-heads ((s ∷ ss) ∷ cs) f = ap suc (length-heads cs f.1)

first-head : (a : UnitName) (cs : List (List Seat)) (k : ℕ) (d : List Seat) (e : Seat) → AreFilled cs → k < length cs → first_cmp (get_or cs k d) a ≡ unit_cmp (get_or (heads cs) k e).unit a
first-head a [] k d e f h = absurd (omega arith)
first-head a ([] ∷ cs) k d e f h = absurd (let z : 0 < 0 = f.0 in omega arith)
first-head a ((s ∷ ss) ∷ cs) zero d e f h = refl
first-head a ((s ∷ ss) ∷ cs) (suc k) d e f h = first-head a cs k d e f.1 (omega arith)

next_head : (ss : List Seat) (k : ℕ) (e : Seat) → IsAscending unit_cmp (names_in ss) → k + 1 < length ss → unit_cmp (get_or ss k e).unit (get_or ss (suc k) e).unit ≡ Less
next_head [] k e o h = absurd (omega arith)
next_head (s ∷ ss) zero e o h = below_at s.unit ss 0 e o.0 (omega arith)
next_head (s ∷ ss) (suc k) e o h = next_head ss k e o.1 (omega arith)

module _ (a : UnitName) where
  chunks_rise : (cs : List (List Seat)) → AreOrdered cs → IsNonDecreasingBy (λ (c : List Seat). ordering_index (first_cmp c a)) cs
  chunks_rise cs o i j d h k =
      let e : Seat = record { unit = a; place = 0 } in
      let size = length-heads cs o.filled in
      let at = rises a (heads cs) (ascending_heads cs o.order) i j e h (omega (arith, size)) in
      rw (first-head a cs i d e o.filled (omega arith), first-head a cs j d e o.filled k) at

  -- whoever comes before the first seat of a chunk comes before all from there on
  higher : (cs : List (List Seat)) (k : ℕ) (e : Seat) → AreFilled cs → IsAscending unit_cmp (names_in (joined cs)) → (k < length cs → unit_cmp a (get_or (heads cs) k e).unit ≡ Less) → IsBelow unit_cmp a (names_in (joined (drop k cs)))
  higher [] zero e f o h = tt
  higher [] (suc k) e f o h = tt
  higher ([] ∷ cs) k e f o h = absurd (let z : 0 < 0 = f.0 in omega arith)
  higher ((s ∷ ss) ∷ cs) zero e f o h = let first = h (omega arith) in (first, below_trans unit_cmp unit_cmp_exact a s.unit (names_in (ss ++ joined cs)) first o.0)
  higher ((s ∷ ss) ∷ cs) (suc k) e f o h = higher cs k e f.1 (ascending_right ss (joined cs) o.1) (λ w. h (omega arith))

  -- and whoever doesn't comes behind all that stand before it
  above_all : (cs : List (List Seat)) (ss : List Seat) (k : ℕ) (e : Seat) → AreFilled cs → k < length cs → IsAscending unit_cmp (names_in (ss ++ joined cs)) → ((n : UnitName) → unit_cmp n (get_or (heads cs) k e).unit ≡ Less → unit_cmp n a ≡ Less) → IsAbove a (names_in ss)
  above_all cs [] k e f w o reach = tt
  above_all cs (s ∷ ss) k e f w o reach =
      let size = length-heads cs f in
      (reach s.unit (below_at s.unit (heads cs) k e (below_heads s.unit cs (below_right s.unit ss (joined cs) o.0)) (omega (arith, size))), above_all cs ss k e f w o.1 reach)

  lower : (cs : List (List Seat)) (k : ℕ) (e : Seat) → AreFilled cs → k < length cs → IsAscending unit_cmp (names_in (joined cs)) → ((n : UnitName) → unit_cmp n (get_or (heads cs) k e).unit ≡ Less → unit_cmp n a ≡ Less) → IsAbove a (names_in (joined (take k cs)))
  lower [] k e f w o reach = absurd (omega arith)
  lower ([] ∷ cs) k e f w o reach = absurd (let z : 0 < 0 = f.0 in omega arith)
  lower ((s ∷ ss) ∷ cs) zero e f w o reach = tt
  lower ((s ∷ ss) ∷ cs) (suc k) e f w o reach =
      above_append a (s ∷ ss) (joined (take k cs)) (above_all cs (s ∷ ss) k e f.1 (omega arith) o reach)
      (lower cs k e f.1 (omega arith) (ascending_right (s ∷ ss) (joined cs) o) reach)

  -- the chunk of a unit
  pub record IsSpot (cs : List (List Seat)) (k : ℕ) : Type 0 where
    pub lower : IsAbove a (names_in (joined (take k cs)))
    pub higher : IsBelow unit_cmp a (names_in (joined (drop (k + 1) cs)))

  module _ (cs : List (List Seat)) (o : AreOrdered cs) where
    e : Seat
    e = record { unit = a; place = 0 }

    pub spot_found : (k : ℕ) → k < length cs → ((d : List Seat) → first_cmp (get_or cs k d) a ≡ Equal) → IsSpot cs k
    spot_found k h p =
        let at : unit_cmp (get_or (heads cs) k e).unit a ≡ Equal = sym (first-head a cs k [] e o.filled h) ∙ p [] in
        let is : (get_or (heads cs) k e).unit ≡ a = unit_cmp_exact.exact (get_or (heads cs) k e).unit a at in
        let size = length-heads cs o.filled in
        let more : suc k ≡ k + 1 = omega arith in
        record {
          lower = lower cs k e o.filled h o.order (λ n less. subst (λ (m : UnitName). unit_cmp n m ≡ Less) is less);
          higher = higher cs (k + 1) e o.filled o.order (λ w. subst (λ (j : ℕ). unit_cmp a (get_or (heads cs) j e).unit ≡ Less) more (subst (λ (m : UnitName). unit_cmp m (get_or (heads cs) (suc k) e).unit ≡ Less) is (next_head (heads cs) k e (ascending_heads cs o.order) (omega (arith, size)))));
        }

    module _ (k : ℕ) (p : IsPartitionPoint (λ (c : List Seat). first_cmp c a ≡ Less) (λ (c : List Seat). first_cmp c a ≡ Greater) cs k) where
      -- the first seat of a chunk from there on is a higher unit's
      beyond : (j : ℕ) → k ≤ j → j < length cs → unit_cmp a (get_or (heads cs) j e).unit ≡ Less
      beyond j h w = reversed unit_cmp unit_cmp_exact (get_or (heads cs) j e).unit a Greater (sym (first-head a cs j [] e o.filled w) ∙ p.1 j [] h w)

      pub spot_first : k ≡ 0 → IsSpot cs 0
      spot_first z = record { lower = tt; higher = higher cs 1 e o.filled o.order (λ w. beyond 1 (omega arith) w) }

      pub spot_before : (i : ℕ) → i + 1 ≡ k → k ≤ length cs → IsSpot cs i
      spot_before i z h =
          let at : unit_cmp (get_or (heads cs) i e).unit a ≡ Less = sym (first-head a cs i [] e o.filled (omega arith)) ∙ p.0 i [] (omega arith) (omega arith) in
          record {
            lower = lower cs i e o.filled (omega arith) o.order (λ n less. unit_cmp_exact.total.trans n (get_or (heads cs) i e).unit a less at);
            higher = higher cs (i + 1) e o.filled o.order (λ w. beyond (i + 1) (omega arith) w);
          }

    pub partition : (k : ℕ) → IsBinarySearchResult (λ (c : List Seat). first_cmp c a) cs (Err k) → IsPartitionPoint (λ (c : List Seat). first_cmp c a ≡ Less) (λ (c : List Seat). first_cmp c a ≡ Greater) cs k
    partition k p = p (chunks_rise cs o)

  -- what the chunk tells of the unit holds of all

  seat_of-above : (xs ys : List Seat) → IsAbove a (names_in xs) → seat_of a (xs ++ ys) ≡ seat_of a ys
  seat_of-above [] ys f = refl
  seat_of-above (x ∷ xs) ys f = rw (unit_cmp_ties x.unit a ∙ ap is_eq f.0) (seat_of-above xs ys f.1)

  seat_of-below : (ys : List Seat) → IsBelow unit_cmp a (names_in ys) → seat_of a ys ≡ None
  seat_of-below [] b = refl
  seat_of-below (y ∷ ys) b = rw (unit_cmp_ties y.unit a ∙ ap is_eq (reversed unit_cmp unit_cmp_exact a y.unit Less b.0)) (seat_of-below ys b.1)

  seat_of-before : (xs ys : List Seat) → seat_of a ys ≡ None → seat_of a (xs ++ ys) ≡ seat_of a xs
  seat_of-before [] ys none = none
  seat_of-before (x ∷ xs) ys none = ap (λ (o : Option ℕ). if same x.unit a then Some x.place else o) (seat_of-before xs ys none)

  module _ (cs : List (List Seat)) (k : ℕ) (d : List Seat) (o : AreOrdered cs) (within : k < length cs) (spot : IsSpot cs k) where
    pub chunk_ordered : IsAscending unit_cmp (names_in (get_or cs k d))
    chunk_ordered =
        let whole = subst (λ (l : List Seat). IsAscending unit_cmp (names_in l)) (joined-parts cs k d within) o.order in
        ascending_left (get_or cs k d) (joined (drop (k + 1) cs)) (ascending_right (joined (take k cs)) (get_or cs k d ++ joined (drop (k + 1) cs)) whole)

    pub seat_of-joined : seat_of a (joined cs) ≡ seat_of a (get_or cs k d)
    seat_of-joined =
        ap (seat_of a) (joined-parts cs k d within)
        ∙ seat_of-above (joined (take k cs)) (get_or cs k d ++ joined (drop (k + 1) cs)) spot.lower
        ∙ seat_of-before (get_or cs k d) (joined (drop (k + 1) cs)) (seat_of-below (joined (drop (k + 1) cs)) spot.higher)

  -- the seat at a place of a chunk is its unit's among all
  pub seat_there : (cs : List (List Seat)) (k i : ℕ) (d : List Seat) (s : Seat) → AreOrdered cs → k < length cs → i < length (get_or cs k d)
      → (get_or (get_or cs k d) i s).unit ≡ a → seat_of a (joined cs) ≡ Some (get_or (get_or cs k d) i s).place
  seat_there cs k i d s o within fits is =
      let before = joined (take k cs) in
      let mine = get_or cs k d in
      let all : joined cs ≡ before ++ (mine ++ joined (drop (k + 1) cs)) = joined-parts cs k d within in
      let at : get_or (before ++ (mine ++ joined (drop (k + 1) cs))) (length before + i) s ≡ get_or mine i s =
      get_or-append-add before (mine ++ joined (drop (k + 1) cs)) i s ∙ get_or_append_left mine (joined (drop (k + 1) cs)) s i fits in
      ap (seat_of a) all
      ∙ found_at a (before ++ (mine ++ joined (drop (k + 1) cs))) (length before + i) s (subst (λ (l : List Seat). IsAscending unit_cmp (names_in l)) all o.order)
      (omega (arith, length-append before (mine ++ joined (drop (k + 1) cs)), length-append mine (joined (drop (k + 1) cs)), fits))
      (ap (λ (t : Seat). unit_cmp t.unit a) at ∙ ap (λ (n : UnitName). unit_cmp n a) is ∙ tied_itself unit_cmp_exact.total a)
      ∙ ap (λ (t : Seat). Some t.place) at

  below_put : (n : UnitName) (xs ys : List UnitName) (i : ℕ) → unit_cmp n a ≡ Less → IsBelow unit_cmp n (xs ++ ys) → IsBelow unit_cmp n (insert xs i a ++ ys)
  below_put n xs ys zero less b = (less, b)
  below_put n [] ys (suc i) less b = (less, b)
  below_put n (x ∷ xs) ys (suc i) less b = (b.0, below_put n xs ys i less b.1)

  below_behind : (n : UnitName) (ws xs ys : List UnitName) (i : ℕ) → unit_cmp n a ≡ Less → IsBelow unit_cmp n (ws ++ (xs ++ ys)) → IsBelow unit_cmp n (ws ++ (insert xs i a ++ ys))
  below_behind n [] xs ys i less b = below_put n xs ys i less b
  below_behind n (w ∷ ws) xs ys i less b = (b.0, below_behind n ws xs ys i less b.1)

  below_join : (n : UnitName) (xs ys : List UnitName) → IsBelow unit_cmp n xs → IsBelow unit_cmp n ys → IsBelow unit_cmp n (xs ++ ys)
  below_join n [] ys b g = g
  below_join n (x ∷ xs) ys b g = (b.0, below_join n xs ys b.1 g)

  below_end : (n : UnitName) (xs ys : List UnitName) → IsBelow unit_cmp n (xs ++ ys) → IsBelow unit_cmp n ys
  below_end n [] ys b = b
  below_end n (x ∷ xs) ys b = below_end n xs ys b.1

  ascending_put : (xs ys : List UnitName) (i : ℕ) → IsAscending unit_cmp (xs ++ ys) → IsAscending unit_cmp (insert xs i a) → IsBelow unit_cmp a ys → IsAscending unit_cmp (insert xs i a ++ ys)
  ascending_put xs ys zero o in' b = (below_join a xs ys in'.0 b, o)
  ascending_put [] ys (suc i) o in' b = (b, o)
  ascending_put (x ∷ xs) ys (suc i) o in' b = (below_join x (insert xs i a) ys in'.0 (below_end x xs ys o.0), ascending_put xs ys i o.1 in'.1 b)

  ascending_behind : (ws xs ys : List UnitName) (i : ℕ) → IsAscending unit_cmp (ws ++ (xs ++ ys)) → IsAbove a ws → IsAscending unit_cmp (insert xs i a) → IsBelow unit_cmp a ys → IsAscending unit_cmp (ws ++ (insert xs i a ++ ys))
  ascending_behind [] xs ys i o f in' b = ascending_put xs ys i o in' b
  ascending_behind (w ∷ ws) xs ys i o f in' b = (below_behind w ws xs ys i f.0 o.0, ascending_behind ws xs ys i o.1 f.1 in' b)

  names-parts : (xs ys zs : List Seat) → names_in (xs ++ (ys ++ zs)) ≡ names_in xs ++ (names_in ys ++ names_in zs)
  names-parts xs ys zs = map-append (λ (s : Seat). s.unit) xs (ys ++ zs) ∙ ap (λ (l : List UnitName). names_in xs ++ l) (map-append (λ (s : Seat). s.unit) ys zs)

  module _ (cs : List (List Seat)) (k : ℕ) (d : List Seat) (o : AreOrdered cs) (within : k < length cs) (spot : IsSpot cs k) (i : ℕ) (fits : i ≤ length (get_or cs k d)) where
    -- where it belongs in the chunk, it belongs among all
    pub between_all : IsAscending unit_cmp (insert (names_in (get_or cs k d)) i a) → IsAscending unit_cmp (insert (names_in (joined cs)) (place_in cs k i) a)
    between_all in' =
        let before = names_in (joined (take k cs)) in
        let mine = names_in (get_or cs k d) in
        let behind = names_in (joined (drop (k + 1) cs)) in
        let is : names_in (joined cs) ≡ before ++ (mine ++ behind) = ap names_in (joined-parts cs k d within) ∙ names-parts (joined (take k cs)) (get_or cs k d) (joined (drop (k + 1) cs)) in
        let at : length before ≡ length (joined (take k cs)) = length-map (joined (take k cs)) (λ (s : Seat). s.unit) in
        let size : length mine ≡ length (get_or cs k d) = length-map (get_or cs k d) (λ (s : Seat). s.unit) in
        subst (IsAscending unit_cmp)
        (sym (ap (λ (l : List UnitName). insert l (place_in cs k i) a) is ∙ ap (λ (j : ℕ). insert (before ++ (mine ++ behind)) (j + i) a) (sym at) ∙ insert-middle before mine behind i a (omega (arith, size, fits))))
        (ascending_behind before mine behind i (subst (IsAscending unit_cmp) is o.order) spot.lower in' spot.higher)
