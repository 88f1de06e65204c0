-- The orders with what is left of them, place by place.
use Rattle.std.proofs.Common.{◌≡◌, ℕ, suc, ◌+◌, ◌≤◌, ◌<◌, true, false, cond, List, [], ◌∷◌, ◌++◌, sym, ap, ◌∙◌, arith, nat_eq, pos, drop, length, get_or, append_assoc}
use Rattle.std.proofs.lemmas.Bool.Decides.{nat_tests}
use Rattle.std.proofs.lemmas.Grind.{common_steps}
use Rattle.std.proofs.Math.Seq.{drop-cons}
use Rattle.df_book.specs.declared.order.Order.{Order}
use Rattle.df_auction.specs.declared.lot.Fill.{Fill}
use Rattle.df_auction.specs.Stairs.{qty_of}
use Rattle.df_auction.specs.code.Clearing.{IsLeft}
use Rattle.df_auction.specs.Auction.{left_of, rest_from, rest_of}
use Rattle.df_auction.proofs.Sides.{read_is}

module _ (orders : List Order) (fills : List Fill) (left : List ℕ) (k q : ℕ) (o : Order) (is : IsLeft orders fills left) (lt : k < length orders) (here : o ≡ get_or orders k o) (found : q ≡ get_or left k q) where
  is_left : k < length left → q ≡ left_of fills k o
  is_left in_left = let e : get_or left k 0 ≡ get_or left k q = grind (arith, common_steps) in
      omega (arith, is k, read_is (λ o. qty_of o) 0 orders k o lt here, e)

  next : rest_from k fills (drop k orders) ≡ cond (nat_eq (left_of fills k o) 0) (rest_from (k + 1) fills (drop (k + 1) orders)) (record o { qty = pos (left_of fills k o) } ∷ rest_from (k + 1) fills (drop (k + 1) orders))
  next =
      let d = drop-cons orders k o lt in
      let f : drop k orders ≡ o ∷ drop (suc k) orders = cc in
      let g : k + 1 ≡ suc k = omega arith in
      ap (rest_from k fills) f ∙ ap (λ n. cond (nat_eq (left_of fills k o) 0) (rest_from (k + 1) fills (drop n orders)) (record o { qty = pos (left_of fills k o) } ∷ rest_from (k + 1) fills (drop n orders))) (sym g)

  of_left : k < length left → rest_from k fills (drop k orders) ≡ cond (nat_eq q 0) (rest_from (k + 1) fills (drop (k + 1) orders)) (record o { qty = pos q } ∷ rest_from (k + 1) fills (drop (k + 1) orders))
  of_left inside = next ∙ ap (λ n. cond (nat_eq n 0) (rest_from (k + 1) fills (drop (k + 1) orders)) (record o { qty = pos n } ∷ rest_from (k + 1) fills (drop (k + 1) orders))) (sym (is_left inside))

  pub rest_same : (rest more : List Order) → k < length left → rest ++ rest_from k fills (drop k orders) ≡ rest_of orders fills → q ≤ 0 → more ≡ rest → more ++ rest_from (k + 1) fills (drop (k + 1) orders) ≡ rest_of orders fills
  rest_same rest more inside h none e =
      let z : nat_eq q 0 ≡ true = grind (arith, nat_tests) in
      let r = of_left inside ∙ ap (λ b. cond b (rest_from (k + 1) fills (drop (k + 1) orders)) (record o { qty = pos q } ∷ rest_from (k + 1) fills (drop (k + 1) orders))) z in
      ap (λ l. l ++ rest_from (k + 1) fills (drop (k + 1) orders)) e ∙ (ap (λ l. rest ++ l) (sym r) ∙ h)

  pub rest_more : (rest more : List Order) (x : Order) → k < length left → rest ++ rest_from k fills (drop k orders) ≡ rest_of orders fills → 0 < q → x ≡ record o { qty = pos q } → more ≡ rest ++ x ∷ []
      → more ++ rest_from (k + 1) fills (drop (k + 1) orders) ≡ rest_of orders fills
  rest_more rest more x inside h some ex e =
      let z : nat_eq q 0 ≡ false = grind (arith, nat_tests) in
      let tail = rest_from (k + 1) fills (drop (k + 1) orders) in
      let r = of_left inside ∙ ap (λ b. cond b tail (record o { qty = pos q } ∷ tail)) z in
      let a : (rest ++ x ∷ []) ++ tail ≡ rest ++ (x ∷ tail) = simp append_assoc in
      ap (λ l. l ++ tail) e ∙ (a ∙ (ap (λ y. rest ++ (y ∷ tail)) ex ∙ (ap (λ l. rest ++ l) (sym r) ∙ h)))
