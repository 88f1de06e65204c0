-- The rankings hold what the orders hold, so a sweep may start from them.
use Rattle.std.proofs.Common.{◌≡◌, ◌≢◌, ℕ, zero, suc, ◌+◌, ◌≤◌, ◌<◌, Bool, true, false, cond, List, [], ◌∷◌, refl, sym, ap, subst, ◌∙◌, inl, arith, nat_lt, nat_eq, if◌then◌else◌}
use Rattle.std.specs.Prelude.{All, ℤ, pos, negsuc, ◌≤ℤ◌, unsigned_abs}
use Rattle.std.proofs.lemmas.Int.{ints}
use Rattle.std.proofs.lemmas.Bool.Decides.{nat_tests}
use Rattle.df_book.specs.declared.order.Order.{Order}
use Rattle.df_auction.specs.declared.lot.Fill.{Fill}
use Rattle.df_auction.specs.declared.lot.Lot.{Lot}
use Rattle.df_auction.specs.Stairs.{IsInRange, limit_of, qty_of, is_purchase, is_sale}
use Rattle.df_auction.specs.Matching.{limit_at, qty_at}
use Rattle.df_auction.specs.Ranking.{lots, lot_of, put, ranked, bids_more, asks_less, purchases, sales, GoesThrough}
use Rattle.df_auction.proofs.Ranks.{NoneBetter, Up, up_ranked, asks_order, bids_order}
use Rattle.df_auction.proofs.Sweeping.{Each, held, held-cons, IsLot, Falls, Rises, Sweeps}

pub each_of_all : {X : Type 0} (P : X → Type 0) (xs : List X) → All P xs → Each P xs
each_of_all P [] h = tt
each_of_all P (x ∷ xs) h = (h 0 x (omega arith), each_of_all P xs (λ k d lt. h (suc k) d (omega arith)))

abs_from : (z : ℤ) → pos 1 ≤ℤ z → 1 ≤ unsigned_abs z
abs_from (pos n) h = omega (arith, ints)
abs_from (negsuc n) h = absurd (omega (arith, ints))

abs_to : (z : ℤ) (n : ℕ) → pos 1 ≤ℤ z → z ≤ℤ pos n → unsigned_abs z ≤ n
abs_to (pos m) n h g = omega (arith, ints)
abs_to (negsuc m) n h g = absurd (omega (arith, ints))

module _ (P : Order → Bool) where
  other_place : (k0 k q : ℕ) → k0 ≢ k → (if nat_eq k0 k then q else 0) ≡ 0
  other_place k0 k q ne = grind (arith, nat_tests)

  this_place : (k0 k q : ℕ) → k0 ≡ k → (if nat_eq k0 k then q else 0) ≡ q
  this_place k0 k q e = grind (arith, nat_tests)

  held_none : (os : List Order) (k0 k : ℕ) → k < k0 → held k (lots P k0 os) ≡ 0
  held_none [] k0 k lt = refl
  held_none (o ∷ os) k0 k lt = go (held_none os (k0 + 1) k (omega arith)) (P o)
    where
      ne : k0 ≢ k
      ne e = omega arith

      go : held k (lots P (k0 + 1) os) ≡ 0 → (b : Bool) → held k (cond b (lot_of k0 o ∷ lots P (k0 + 1) os) (lots P (k0 + 1) os)) ≡ 0
      go rest true = omega (arith, held-cons k (lot_of k0 o) (lots P (k0 + 1) os), other_place k0 k (qty_of o) ne, rest)
      go rest false = rest

  held_lots : (os : List Order) (k0 j : ℕ) → held (k0 + j) (lots P k0 os) ≡ qty_at P os j
  held_lots [] k0 j = refl
  held_lots (o ∷ os) k0 zero = go (P o)
    where
      rest : held (k0 + 0) (lots P (k0 + 1) os) ≡ 0
      rest = held_none os (k0 + 1) (k0 + 0) (omega arith)

      e : k0 ≡ k0 + 0
      e = omega arith

      go : (b : Bool) → held (k0 + 0) (cond b (lot_of k0 o ∷ lots P (k0 + 1) os) (lots P (k0 + 1) os)) ≡ cond b (qty_of o) 0
      go true = omega (arith, held-cons (k0 + 0) (lot_of k0 o) (lots P (k0 + 1) os), this_place k0 (k0 + 0) (qty_of o) e, rest)
      go false = rest
  held_lots (o ∷ os) k0 (suc j) = go (subst (λ n. held n (lots P (k0 + 1) os) ≡ qty_at P os j) same (held_lots os (k0 + 1) j)) (P o)
    where
      same : k0 + 1 + j ≡ k0 + suc j
      same = omega arith

      ne : k0 ≢ k0 + suc j
      ne e = omega arith

      go : held (k0 + suc j) (lots P (k0 + 1) os) ≡ qty_at P os j → (b : Bool) → held (k0 + suc j) (cond b (lot_of k0 o ∷ lots P (k0 + 1) os) (lots P (k0 + 1) os)) ≡ qty_at P os j
      go rest true = omega (arith, held-cons (k0 + suc j) (lot_of k0 o) (lots P (k0 + 1) os), other_place k0 (k0 + suc j) (qty_of o) ne, rest)
      go rest false = rest

  is_lot : (all : List Order) (k : ℕ) (o : Order) → limit_of o ≡ limit_at all k → IsInRange o → IsLot all (lot_of k o)
  is_lot all k o e r = record {
    limit = e;
    some = abs_from o.qty r.qty_from;
    from_one = abs_from o.limit r.limit_from;
    most = abs_to o.limit 1_000_000_000 r.limit_from r.limit_to;
  }

  lots_are : (all os : List Order) (k0 : ℕ) → ((j : ℕ) → limit_at all (k0 + j) ≡ limit_at os j) → Each IsInRange os → Each (IsLot all) (lots P k0 os)
  lots_are all [] k0 h r = tt
  lots_are all (o ∷ os) k0 h r = go (lots_are all os (k0 + 1) next r.1) (P o)
    where
      next : (j : ℕ) → limit_at all (k0 + 1 + j) ≡ limit_at os j
      next j = let e : k0 + suc j ≡ k0 + 1 + j = omega arith in subst (λ n. limit_at all n ≡ limit_at os j) e (h (suc j))

      here : limit_of o ≡ limit_at all k0
      here = let e : k0 + 0 ≡ k0 = omega arith in subst (λ n. limit_of o ≡ limit_at all n) e (sym (h 0))

      go : Each (IsLot all) (lots P (k0 + 1) os) → (b : Bool) → Each (IsLot all) (cond b (lot_of k0 o ∷ lots P (k0 + 1) os) (lots P (k0 + 1) os))
      go rest true = (is_lot all k0 o here r.0, rest)
      go rest false = rest

module _ (by : Lot → Lot → Bool) where
  held_put : (k : ℕ) (x : Lot) (ys : List Lot) → held k (put by x ys) ≡ held k (x ∷ ys)
  held_put k x [] = refl
  held_put k x (y ∷ ys) = go (held_put k x ys) (by y x)
    where
      go : held k (put by x ys) ≡ held k (x ∷ ys) → (b : Bool) → held k (cond b (y ∷ put by x ys) (x ∷ y ∷ ys)) ≡ held k (x ∷ y ∷ ys)
      go rest true = omega (arith, held-cons k y (put by x ys), rest, held-cons k x ys, held-cons k x (y ∷ ys), held-cons k y ys)
      go rest false = refl

  held_ranked : (k : ℕ) (xs : List Lot) → held k (ranked by xs) ≡ held k xs
  held_ranked k [] = refl
  held_ranked k (x ∷ xs) = omega (arith, held_put k x (ranked by xs), held-cons k x (ranked by xs), held-cons k x xs, held_ranked k xs)

  each_put : (P : Lot → Type 0) (x : Lot) (ys : List Lot) → P x → Each P ys → Each P (put by x ys)
  each_put P x [] p h = (p, tt)
  each_put P x (y ∷ ys) p h = go (each_put P x ys p h.1) (by y x)
    where
      go : Each P (put by x ys) → (b : Bool) → Each P (cond b (y ∷ put by x ys) (x ∷ y ∷ ys))
      go rest true = (h.0, rest)
      go rest false = (p, h)

  each_ranked : (P : Lot → Type 0) (xs : List Lot) → Each P xs → Each P (ranked by xs)
  each_ranked P [] h = tt
  each_ranked P (x ∷ xs) h = each_put P x (ranked by xs) h.0 (each_ranked P xs h.1)

no_less : (a b : ℕ) → nat_lt a b ≡ false → b ≤ a
no_less a b h = grind (arith, nat_tests)

none_more : (x : Lot) (ys : List Lot) → NoneBetter bids_more bids_order x ys → Each (λ y. y.limit ≤ x.limit) ys
none_more x [] h = tt
none_more x (y ∷ ys) h = (no_less x.limit y.limit h.0, none_more x ys h.1)

falls_of : (xs : List Lot) → Up bids_more bids_order xs → Falls xs
falls_of [] h = tt
falls_of (x ∷ xs) h = (none_more x xs h.0, falls_of xs h.1)

none_less : (x : Lot) (ys : List Lot) → NoneBetter asks_less asks_order x ys → Each (λ y. x.limit ≤ y.limit) ys
none_less x [] h = tt
none_less x (y ∷ ys) h = (no_less y.limit x.limit h.0, none_less x ys h.1)

rises_of : (xs : List Lot) → Up asks_less asks_order xs → Rises xs
rises_of [] h = tt
rises_of (x ∷ xs) h = (none_less x xs h.0, rises_of xs h.1)

-- a sweep starts with the two rankings
module _ (orders : List Order) (r : Each IsInRange orders) where
  in_place : (j : ℕ) → limit_at orders (0 + j) ≡ limit_at orders j
  in_place j = let e : 0 + j ≡ j = omega arith in ap (limit_at orders) e

  held_ranks : (P : Order → Bool) (by : Lot → Lot → Bool) (k : ℕ) → held k (ranked by (lots P 0 orders)) ≡ qty_at P orders k
  held_ranks P by k = let e : 0 + k ≡ k = omega arith in
      held_ranked by k (lots P 0 orders) ∙ subst (λ n. held n (lots P 0 orders) ≡ qty_at P orders k) e (held_lots P orders 0 k)

  bids_are : Each (IsLot orders) (purchases orders)
  bids_are = each_ranked bids_more (IsLot orders) (lots is_purchase 0 orders) (lots_are is_purchase orders orders 0 in_place r)

  asks_are : Each (IsLot orders) (sales orders)
  asks_are = each_ranked asks_less (IsLot orders) (lots is_sale 0 orders) (lots_are is_sale orders orders 0 in_place r)

  each_low : (xs : List Lot) → Each (IsLot orders) xs → Each (λ x. x.limit ≤ 1_000_000_000) xs
  each_low [] h = tt
  each_low (x ∷ xs) h = (h.0.most, each_low xs h.1)

  each_high : (xs : List Lot) → Each (IsLot orders) xs → Each (λ x. 0 ≤ x.limit) xs
  each_high [] h = tt
  each_high (x ∷ xs) h = (omega arith, each_high xs h.1)

  pub start : Sweeps orders [] 0 (purchases orders) (sales orders)
  start = record {
    through = λ v more g. let e : v ≡ 0 + v = omega arith in subst (λ n. GoesThrough n (purchases orders) (sales orders) more) e g;
    buys = λ k. omega (arith, held_ranks is_purchase bids_more k);
    sells = λ k. omega (arith, held_ranks is_sale asks_less k);
    bids = bids_are;
    asks = asks_are;
    falls = falls_of (purchases orders) (up_ranked bids_more bids_order (lots is_purchase 0 orders));
    rises = rises_of (sales orders) (up_ranked asks_less asks_order (lots is_sale 0 orders));
    low = 1_000_000_000;
    low_bids = each_low (purchases orders) bids_are;
    high_asks = each_high (sales orders) asks_are;
    buyers = tt;
    sellers = tt;
    crossed = omega arith;
    placed = tt;
    last = inl (refl, refl);
  }

pub begun : (orders : List Order) (fills : List Fill) (bids asks : List Lot) → All IsInRange orders → bids ≡ purchases orders → asks ≡ sales orders → fills ≡ [] → Sweeps orders fills 0 bids asks
begun orders fills bids asks r eb ec ef = rw (eb, ec, ef) (start orders (each_of_all IsInRange orders r))
