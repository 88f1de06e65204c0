-- Fills that clear the orders are the settlement that the orders call for, and it is the best.
use Rattle.std.proofs.Common.{◌≡◌, ℕ, suc, ◌+◌, ◌-◌, ◌≤◌, ◌<◌, Bool, true, false, cond, not, ◌&&◌, List, [], ◌∷◌, refl, sym, ap, subst, ⊎_elim, arith, nat_eq, nat_le, if◌then◌else◌, Some, None, pos}
use Rattle.std.specs.Prelude.{MatchOption}
use Rattle.std.proofs.lemmas.Bool.{cases_Bool}
use Rattle.std.proofs.lemmas.Bool.Decides.{nat_tests}
use Rattle.std.proofs.lemmas.List.Elements.{All-contains}
use Rattle.df_book.specs.declared.order.Order.{Order}
use Rattle.df_auction.specs.declared.lot.Fill.{Fill}
use Rattle.df_auction.specs.Stairs.{limit_of, qty_of, is_purchase, is_sale, buys_at, sells_at, qty_among, demand, supply, volume_at}
use Rattle.df_auction.specs.Matching.{bought, sold, total, qty_at, IsMatching}
use Rattle.df_auction.specs.code.Clearing.{Clears, price_of}
use Rattle.df_auction.specs.Auction.{Settlement, IsSettlement, IsLeastPrice, IsBest, CannotTrade, left_of, rest_from, rest_of}
use Rattle.df_auction.proofs.Sides.{among-cons, total_at_most, total_at_least}
use Rattle.df_auction.proofs.Sweeping.{Each, all_of_each}

-- a kind with more orders has no less
among-more : (P Q : Order → Bool) (os : List Order) → ((o : Order) → P o ≡ true → Q o ≡ true) → qty_among P os ≤ qty_among Q os
among-more P Q [] h = omega arith
among-more P Q (o ∷ os) h = omega (arith, among-cons P o os, among-cons Q o os, step (P o) (Q o) (h o), among-more P Q os h)
  where
    step : (a b : Bool) → (a ≡ true → b ≡ true) → (if a then qty_of o else 0) ≤ (if b then qty_of o else 0)
    step true b f = let e = f refl in rw e (omega arith)
    step false b f = omega arith

and_both : (a b c : Bool) → (b ≡ true → c ≡ true) → a && b ≡ true → a && c ≡ true
and_both true b c f h = f h
and_both false b c f h = h

le_up : (m n k : ℕ) → m ≤ n → nat_le n k ≡ true → nat_le m k ≡ true
le_up m n k h e = grind (arith, nat_tests)

le_on : (m n k : ℕ) → m ≤ n → nat_le k m ≡ true → nat_le k n ≡ true
le_on m n k h e = grind (arith, nat_tests)

-- demand falls and supply rises with the price
pub demand_falls : (orders : List Order) (p q : ℕ) → p ≤ q → demand orders q ≤ demand orders p
demand_falls orders p q le = among-more (buys_at q) (buys_at p) orders (λ o. and_both (is_purchase o) (nat_le q (limit_of o)) (nat_le p (limit_of o)) (le_up p q (limit_of o) le))

pub supply_rises : (orders : List Order) (p q : ℕ) → p ≤ q → supply orders p ≤ supply orders q
supply_rises orders p q le = among-more (sells_at p) (sells_at q) orders (λ o. and_both (is_sale o) (nat_le (limit_of o) p) (nat_le (limit_of o) q) (le_on p q (limit_of o) le))

-- a matching at a price has at most the volume there
pub matching_bound : (orders : List Order) (p : ℕ) (fills : List Fill) → IsMatching orders p fills → total fills ≤ volume_at orders p
matching_bound orders p fills m =
    let buys = total_at_most (λ f. f.purchase) (buys_at p) orders fills m.buys in
    let sells = total_at_most (λ f. f.sale) (sells_at p) orders fills m.sells in
    omega arith

module _ (orders : List Order) (fills : List Fill) (p r : ℕ) (c : Clears orders fills p r) where
  asked : demand orders r ≤ total fills
  asked = total_at_least (λ f. f.purchase) (buys_at r) orders fills c.all_bought

  offered : supply orders (r - 1) ≤ total fills
  offered = total_at_least (λ f. f.sale) (sells_at (r - 1)) orders fills c.all_sold

  -- the split shows that no price has a greater volume
  greatest : (q : ℕ) → volume_at orders q ≤ total fills
  greatest q = ⊎_elim
      (λ t. let le : r ≤ q = grind (arith, nat_tests) in omega (arith, demand_falls orders r q le, asked))
      (λ f. let lt : q < r = grind (arith, nat_tests) in let le : q ≤ r - 1 = omega arith in omega (arith, supply_rises orders q (r - 1) le, offered))
      (cases_Bool (nat_le r q))

  least_price : (0 < total fills) × (1 ≤ p) → IsLeastPrice orders (total fills) p
  least_price t = record {
    from_one = t.1;
    trades = t.0;
    reaches = let a = greatest p in let b = matching_bound orders p fills c.matching in omega arith;
    least = λ q lt. let s = c.offered_below q lt in omega arith;
  }

  -- what is left of an order that would trade at the split
  module _ (k : ℕ) (o : Order) (some : nat_eq (left_of fills k o) 0 ≡ false) where
    some_left : bought k fills + sold k fills < qty_of o
    some_left = let s = some in grind (arith, nat_tests)

    low_purchase : (b : Bool) (n : ℕ) → (if not b && nat_le r n then qty_of o else 0) ≤ bought k fills → b ≡ false → n < r
    low_purchase b n h e = ⊎_elim
        (λ t. let s = some_left in
        let f : (if not b && nat_le r n then qty_of o else 0) ≡ qty_of o = (λ i. if not (e i) && (t i) then qty_of o else 0) in
        absurd (omega arith))
        (λ f. grind (arith, nat_tests))
        (cases_Bool (nat_le r n))

    high_sale : (b : Bool) (n : ℕ) → (if b && nat_le n (r - 1) then qty_of o else 0) ≤ sold k fills → b ≡ true → r ≤ n
    high_sale b n h e = ⊎_elim
        (λ t. let s = some_left in
        let f : (if b && nat_le n (r - 1) then qty_of o else 0) ≡ qty_of o = (λ i. if (e i) && (t i) then qty_of o else 0) in
        absurd (omega arith))
        (λ f. let lt : r - 1 < n = grind (arith, nat_tests) in let one = c.split in omega arith)
        (cases_Bool (nat_le n (r - 1)))

  -- an order that is left: a purchase below the split, or a sale from it on
  abbrev IsApart : Order → Type 0
  IsApart o = (o.sell ≡ false → limit_of o < r) × (o.sell ≡ true → r ≤ limit_of o)

  apart_from : (os : List Order) (k : ℕ)
      → ((j : ℕ) → qty_at (buys_at r) os j ≤ bought (k + j) fills) → ((j : ℕ) → qty_at (sells_at (r - 1)) os j ≤ sold (k + j) fills)
      → Each IsApart (rest_from k fills os)
  apart_from [] k buys sells = tt
  apart_from (o ∷ os) k buys sells = go (apart_from os (k + 1) next_buys next_sells) (nat_eq (left_of fills k o) 0) (λ some. (low_purchase k o some o.sell (limit_of o) here_buys, high_sale k o some o.sell (limit_of o) here_sells))
    where
      e0 : k + 0 ≡ k
      e0 = omega arith

      e1 : (j : ℕ) → k + suc j ≡ k + 1 + j
      e1 j = omega arith

      here_buys : qty_at (buys_at r) (o ∷ os) 0 ≤ bought k fills
      here_buys = subst (λ n. qty_at (buys_at r) (o ∷ os) 0 ≤ bought n fills) e0 (buys 0)

      here_sells : qty_at (sells_at (r - 1)) (o ∷ os) 0 ≤ sold k fills
      here_sells = subst (λ n. qty_at (sells_at (r - 1)) (o ∷ os) 0 ≤ sold n fills) e0 (sells 0)

      next_buys : (j : ℕ) → qty_at (buys_at r) os j ≤ bought (k + 1 + j) fills
      next_buys j = subst (λ n. qty_at (buys_at r) os j ≤ bought n fills) (e1 j) (buys (suc j))

      next_sells : (j : ℕ) → qty_at (sells_at (r - 1)) os j ≤ sold (k + 1 + j) fills
      next_sells j = subst (λ n. qty_at (sells_at (r - 1)) os j ≤ sold n fills) (e1 j) (sells (suc j))

      go : Each IsApart (rest_from (k + 1) fills os) → (b : Bool) → (b ≡ false → IsApart o)
          → Each IsApart (cond b (rest_from (k + 1) fills os) (record o { qty = pos (left_of fills k o) } ∷ rest_from (k + 1) fills os))
      go rest true f = rest
      go rest false f = (f refl, rest)

  all_apart : Each IsApart (rest_of orders fills)
  all_apart = apart_from orders 0
      (λ j. let e : j ≡ 0 + j = omega arith in subst (λ n. qty_at (buys_at r) orders j ≤ bought n fills) e (c.all_bought j))
      (λ j. let e : j ≡ 0 + j = omega arith in subst (λ n. qty_at (sells_at (r - 1)) orders j ≤ sold n fills) e (c.all_sold j))

  apart : CannotTrade (rest_of orders fills)
  apart a b in_a in_b buys sells =
      let all = all_of_each IsApart (rest_of orders fills) all_apart in
      let low = (All-contains IsApart (rest_of orders fills) a all in_a).0 buys in
      let high = (All-contains IsApart (rest_of orders fills) b all in_b).1 sells in
      omega arith

  abbrev pub settled : Settlement
  settled = record { volume = total fills; price = price_of p; split = r; fills = fills }

  some_price : 1 ≤ p → nat_eq p 0 ≡ false
  some_price le = grind (arith, nat_tests)

  pub called_for : IsSettlement orders settled
  called_for = record {
    greatest = greatest;
    price = ⊎_elim
        (λ no. let z : nat_eq p 0 ≡ true = (λ i. nat_eq (no.1 i) 0) in
        subst (λ b. MatchOption (cond b None (Some p)) (total fills ≡ 0) (IsLeastPrice orders (total fills))) (sym z) (ap total no.0))
        (λ t. let z : nat_eq p 0 ≡ false = some_price t.1 in
        subst (λ b. MatchOption (cond b None (Some p)) (total fills ≡ 0) (IsLeastPrice orders (total fills))) (sym z) (least_price t))
        c.traded;
    split = record {
      from_one = c.split;
      fits = asked;
      least = λ q one lt. let below = c.asked_below (omega arith) in let le : q ≤ r - 1 = omega arith in omega (arith, demand_falls orders q (r - 1) le);
    };
    fills = c.through;
  }

  pub best : IsBest orders settled
  best = record {
    matching = ⊎_elim
        (λ no. let z : nat_eq p 0 ≡ true = (λ i. nat_eq (no.1 i) 0) in
        subst (λ b. MatchOption (cond b None (Some p)) (fills ≡ []) (λ q. IsMatching orders q fills)) (sym z) no.0)
        (λ t. let z : nat_eq p 0 ≡ false = some_price t.1 in
        subst (λ b. MatchOption (cond b None (Some p)) (fills ≡ []) (λ q. IsMatching orders q fills)) (sym z) c.matching)
        c.traded;
    in_total = refl;
    best = λ q more m. let a = matching_bound orders q more m in let b = greatest q in omega arith;
    asked = asked;
    offered = offered;
    within = c.within;
    apart = apart;
  }
