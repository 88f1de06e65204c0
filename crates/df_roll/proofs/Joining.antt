-- Seats in chunks, as one list.
use Rattle.df_roll.proofs.Names.{◌≡◌, ℕ, zero, suc, ◌+◌, ◌-◌, ◌<◌, ◌≤◌, List, [], ◌∷◌, ◌++◌, take, drop, get_or, set, length, Some, refl, ap, sym, subst, ◌∙◌, arith, append_assoc, at_drop_more, length-append, insert-append_left, insert-append_right, insert, slice_get, AreFilled, IsPut, joined, place_in, names_in, Seat}

-- the seats before a chunk, its own, and those behind it
parts : (cs : List (List Seat)) (k : ℕ) (d : List Seat) → k < length cs → joined cs ≡ joined (take k cs) ++ (get_or cs k d ++ joined (drop (suc k) cs))
parts [] k d h = absurd (omega arith)
parts (c ∷ cs) zero d h = refl
parts (c ∷ cs) (suc k) d h = ap (λ (l : List Seat). c ++ l) (parts cs k d (omega arith)) ∙ sym (append_assoc c (joined (take k cs)) (get_or cs k d ++ joined (drop (suc k) cs)))

pub joined-parts : (cs : List (List Seat)) (k : ℕ) (d : List Seat) → k < length cs → joined cs ≡ joined (take k cs) ++ (get_or cs k d ++ joined (drop (k + 1) cs))
joined-parts cs k d h =
    let e : suc k ≡ k + 1 = omega arith in
    subst (λ (j : ℕ). joined cs ≡ joined (take k cs) ++ (get_or cs k d ++ joined (drop j cs))) e (parts cs k d h)

-- with other seats in the chunk
joined-set : (cs : List (List Seat)) (k : ℕ) (x : List Seat) → k < length cs → joined (set cs k x) ≡ joined (take k cs) ++ (x ++ joined (drop (suc k) cs))
joined-set [] k x h = absurd (omega arith)
joined-set (c ∷ cs) zero x h = refl
joined-set (c ∷ cs) (suc k) x h = ap (λ (l : List Seat). c ++ l) (joined-set cs k x (omega arith)) ∙ sym (append_assoc c (joined (take k cs)) (x ++ joined (drop (suc k) cs)))

-- and with one more chunk behind it
joined-split : (cs : List (List Seat)) (k : ℕ) (x y : List Seat) → k < length cs → joined (insert (set cs k x) (suc k) y) ≡ joined (take k cs) ++ ((x ++ y) ++ joined (drop (suc k) cs))
joined-split [] k x y h = absurd (omega arith)
joined-split (c ∷ cs) zero x y h = sym (append_assoc x y (joined cs))
joined-split (c ∷ cs) (suc k) x y h = ap (λ (l : List Seat). c ++ l) (joined-split cs k x y (omega arith)) ∙ sym (append_assoc c (joined (take k cs)) ((x ++ y) ++ joined (drop (suc k) cs)))

-- one more in the middle of three
pub insert-middle : {X : Type 0} (xs ys zs : List X) (i : ℕ) (x : X) → i ≤ length ys → insert (xs ++ (ys ++ zs)) (length xs + i) x ≡ xs ++ (insert ys i x ++ zs)
insert-middle xs ys zs i x h =
    let e : length xs + i - length xs ≡ i = omega arith in
    insert-append_right xs (ys ++ zs) (length xs) (length xs + i) x refl (omega arith)
    ∙ ap (λ (j : ℕ). xs ++ insert (ys ++ zs) j x) e
    ∙ ap (λ l. xs ++ l) (insert-append_left ys zs i x h)

filled-set : (cs : List (List Seat)) (k : ℕ) (x : List Seat) → AreFilled cs → 0 < length x → AreFilled (set cs k x)
filled-set [] k x f h = tt
filled-set (c ∷ cs) zero x f h = (h, f.1)
filled-set (c ∷ cs) (suc k) x f h = (f.0, filled-set cs k x f.1 h)

filled-insert : (cs : List (List Seat)) (k : ℕ) (x : List Seat) → AreFilled cs → 0 < length x → AreFilled (insert cs k x)
filled-insert cs zero x f h = (h, f)
filled-insert [] (suc k) x f h = (h, tt)
filled-insert (c ∷ cs) (suc k) x f h = (f.0, filled-insert cs k x f.1 h)

filled-push : {X : Type 0} (xs : List X) (i : ℕ) (x : X) → 0 < length (insert xs i x)
filled-push xs i x = let e = length-append (take i xs) (x ∷ drop i xs) in omega (arith, e)

module _ (cs : List (List Seat)) (k at : ℕ) (seat : Seat) (d : List Seat) (within : k < length cs) (fits : at ≤ length (get_or cs k d)) where
  -- a seat more in a chunk is a seat more among all
  pub put_in_room : (x : List Seat) → x ≡ insert (get_or cs k d) at seat → IsPut k at seat cs (set cs k x)
  put_in_room x is = record {
    seats =
        joined-set cs k x within
        ∙ ap (λ (l : List Seat). joined (take k cs) ++ (l ++ joined (drop (suc k) cs))) is
        ∙ sym (insert-middle (joined (take k cs)) (get_or cs k d) (joined (drop (suc k) cs)) at seat fits)
        ∙ ap (λ (l : List Seat). insert l (place_in cs k at) seat) (sym (parts cs k d within));
    filled = λ f. filled-set cs k x f (subst (λ (l : List Seat). 0 < length l) (sym is) (filled-push (get_or cs k d) at seat));
  }

  -- also where the chunk becomes two
  pub put_in_two : (x y : List Seat) → x ++ y ≡ insert (get_or cs k d) at seat → 0 < length x → 0 < length y → IsPut k at seat cs (insert (set cs k x) (k + 1) y)
  put_in_two x y is lower upper =
      let e : suc k ≡ k + 1 = omega arith in
      subst (λ (j : ℕ). IsPut k at seat cs (insert (set cs k x) j y)) e (record {
        seats =
            joined-split cs k x y within
            ∙ ap (λ (l : List Seat). joined (take k cs) ++ (l ++ joined (drop (suc k) cs))) is
            ∙ sym (insert-middle (joined (take k cs)) (get_or cs k d) (joined (drop (suc k) cs)) at seat fits)
            ∙ ap (λ (l : List Seat). insert l (place_in cs k at) seat) (sym (parts cs k d within));
        filled = λ f. filled-insert (set cs k x) (suc k) y (filled-set cs k x f lower) upper;
      })

-- a place in a chunk is within all
pub place_fits : (cs : List (List Seat)) (k at : ℕ) (d : List Seat) → k < length cs → at ≤ length (get_or cs k d) → place_in cs k at ≤ length (joined cs)
place_fits cs k at d h fits =
    let whole = ap length (parts cs k d h) in
    let one = length-append (joined (take k cs)) (get_or cs k d ++ joined (drop (suc k) cs)) in
    let two = length-append (get_or cs k d) (joined (drop (suc k) cs)) in
    omega (arith, whole, one, two, fits)

-- the unit at a place, in the first chunk or behind it

pub unit_within : (c ys : List Seat) (k : ℕ) (d : Seat) → k < length c → slice_get (names_in (c ++ ys)) k ≡ Some (get_or c k d).unit
unit_within [] ys k d h = absurd (omega arith)
unit_within (s ∷ c) ys zero d h = refl
unit_within (s ∷ c) ys (suc k) d h = unit_within c ys k d (omega arith)

pub unit_behind : (c ys : List Seat) (k : ℕ) → length c ≤ k → slice_get (names_in (c ++ ys)) k ≡ slice_get (names_in ys) (k - length c)
unit_behind [] ys k h = let e : k ≡ k - 0 = omega arith in ap (slice_get (names_in ys)) e
unit_behind (s ∷ c) ys zero h = absurd (omega arith)
unit_behind (s ∷ c) ys (suc k) h = let e : k - length c ≡ suc k - suc (length c) = omega arith in unit_behind c ys k (omega arith) ∙ ap (slice_get (names_in ys)) e

pub unit_next : (cs : List (List Seat)) (i k : ℕ) (c : List Seat) → i < length cs → c ≡ get_or cs i c → slice_get (names_in (joined (drop i cs))) k ≡ slice_get (names_in (c ++ joined (drop (i + 1) cs))) k
unit_next cs i k c h is =
    at_drop_more (λ (l : List (List Seat)). slice_get (names_in (joined l)) k) cs i c h
    ∙ ap (λ (l : List Seat). slice_get (names_in (l ++ joined (drop (i + 1) cs))) k) (sym is)
