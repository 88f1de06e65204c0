-- Orders that stand by symbol, cut into those of one symbol each.
use Rattle.std.proofs.Common.{◌≡◌, ◌≢◌, ℕ, suc, ◌+◌, ◌-◌, ◌^◌, ◌≤◌, ◌<◌, List, [], ◌∷◌, ◌++◌, refl, sym, ap, subst, ◌∙◌, ◌⊎◌, inl, inr, ⊎_elim, arith, nat_lt, drop, take, length, get_or, append_assoc, append-nil}
use Rattle.std.specs.Prelude.{All}
use Rattle.std.specs.Cmp.{IsStrictWeakOrder}
use Rattle.std.proofs.lemmas.List.{get_or-take, get_or-drop, get_or_default, take-append-drop, drop-drop, length-take, length-drop}
use Rattle.std.proofs.lemmas.List.Sorted.{ranks_by}
use Rattle.std.proofs.lemmas.Cmp.{nat_list_cmp_total}
use Rattle.std.proofs.lemmas.Bool.{cases_Bool}
use Rattle.std.proofs.lemmas.Bool.Decides.{nat_tests}
use Rattle.std.proofs.lemmas.Grind.{common_steps}
use Rattle.std.proofs.Math.Seq.{drop-cons}
use Rattle.df_book.specs.declared.order.Order.{Order}
use Rattle.df_auction.specs.Stairs.{IsInRange}
use Rattle.df_auction.specs.Auction.{IsMarket, Settles}
use Rattle.df_auction.specs.AuctionText.{symbol_below, AreLines, BeginsWithout, AppendsMarket, auction_lines}
use Rattle.df_auction.specs.AuctionText.AreLines.{none, auction}

pub symbol_order : IsStrictWeakOrder symbol_below
symbol_order = ranks_by nat_list_cmp_total (λ o. o.symbol)

again : (a b c : List ℕ) → (a ++ b) ++ c ≡ a ++ (b ++ c)
again a b c = simp append_assoc

order : (a b : ℕ) → (a < b) ⊎ (b ≤ a)
order a b = ⊎_elim (λ t. inl (grind (arith, nat_tests))) (λ f. inr (grind (arith, nat_tests))) (cases_Bool (nat_lt a b))

pub all_lines : (xs : List Order) (i : ℕ) (text : List ℕ) → length xs ≤ i → ((more : List ℕ) → AreLines (drop i xs) more → AreLines xs (text ++ more)) → AreLines xs text
all_lines xs i text le h = let e : drop i xs ≡ [] = grind (arith, common_steps) in subst (AreLines xs) (append-nil text) (h [] (subst (λ l. AreLines l []) (sym e) none))

-- orders from i up to n, all of the symbol of the first
module _ (xs : List Order) (i n : ℕ) (some : i < n) (bound : n ≤ length xs) (same : (k : ℕ) (d : Order) → i ≤ k → k < n → (get_or xs k d).symbol ≡ (get_or xs i d).symbol) where
  abbrev pub market : List Order
  market = take (n - i) (drop i xs)

  at : (k : ℕ) (d : Order) → k < n - i → get_or market k d ≡ get_or xs (i + k) d
  at k d lt = get_or-take (n - i) (drop i xs) k d lt ∙ get_or-drop i xs k d

  long : length market ≡ n - i
  long = omega (arith, length-take (n - i) (drop i xs), length-drop i xs)

  is_at : (k : ℕ) (d : Order) → k < n - i → (get_or market k d).symbol ≡ (get_or xs i d).symbol
  is_at k d lt = ap (λ o. o.symbol) (at k d lt) ∙ same (i + k) d (omega arith) (omega arith)

  pub is_market : All IsInRange xs → length xs < 2 ^ 32 → IsMarket market
  is_market all few = record {
    few = omega (arith, long);
    in_range = λ k d lt. let l = long in subst IsInRange (sym (at k d (omega arith))) (all (i + k) d (omega arith));
    one_symbol = λ a b in_a in_b. let l = long in
        let sa = is_at in_a.0 a (omega (arith, in_a.1)) in
        let sb = is_at in_b.0 b (omega (arith, in_b.1)) in
        let ea = ap (λ o. o.symbol) in_a.2 in
        let eb = ap (λ o. o.symbol) in_b.2 in
        let first = ap (λ o. o.symbol) (get_or_default xs i a b (omega arith)) in
        sym ea ∙ (sa ∙ (first ∙ (sym sb ∙ eb)));
  }

  module _ (o : Order) (rest : List Order) (is : market ≡ o ∷ rest) where
    first_is : (d : Order) → get_or xs i d ≡ o
    first_is d =
        let e : get_or market 0 d ≡ o = ap (λ l. get_or l 0 d) is in
        let z : i + 0 ≡ i = omega arith in
        ap (λ k. get_or xs k d) (sym z) ∙ (sym (at 0 d (omega arith)) ∙ e)

    rest_same : All (λ x. x.symbol ≡ o.symbol) rest
    rest_same k d lt =
        let l = long in let m = ap length is in
        let e : get_or market (suc k) d ≡ get_or rest k d = ap (λ l. get_or l (suc k) d) is in
        ap (λ x. x.symbol) (sym e) ∙ (is_at (suc k) d (omega arith) ∙ ap (λ x. x.symbol) (first_is d))

    whole : drop i xs ≡ o ∷ (rest ++ drop n xs)
    whole =
        let e = take-append-drop (n - i) (drop i xs) in
        let m : i + (n - i) ≡ n = omega arith in
        let f : drop (n - i) (drop i xs) ≡ drop n xs = drop-drop (n - i) i xs ∙ ap (λ k. drop k xs) m in
        sym e ∙ (ap (λ l. market ++ l) f ∙ ap (λ l. l ++ drop n xs) is)

    without : ((d : Order) → n < length xs → (get_or xs n d).symbol ≢ (get_or xs i d).symbol) → BeginsWithout o.symbol (drop n xs)
    without other = ⊎_elim
        (λ lt. let d = drop-cons xs n o lt in
        subst (BeginsWithout o.symbol) (sym d) (λ e. other o lt (e ∙ ap (λ x. x.symbol) (sym (first_is o)))))
        (λ le. let e : drop n xs ≡ [] = grind (arith, common_steps) in subst (BeginsWithout o.symbol) (sym e) tt)
        (order n (length xs))

  shape : (l : List Order) → 0 < length l → (o : Order) × (rest : List Order) × (l ≡ o ∷ rest)
  shape [] lt = absurd (omega arith)
  shape (o ∷ rest) lt = (o, rest, refl)

  -- one more auction's lines
  pub more_lines : (old new : List ℕ) → ((d : Order) → n < length xs → (get_or xs n d).symbol ≢ (get_or xs i d).symbol)
      → ((more : List ℕ) → AreLines (drop i xs) more → AreLines xs (old ++ more)) → AppendsMarket market old new
      → (more : List ℕ) → AreLines (drop n xs) more → AreLines xs (new ++ more)
  more_lines old new other h appends more lines = let l = long in let s = shape market (omega arith) in go s.0 s.1 s.2
    where
      go : (o : Order) (rest : List Order) → market ≡ o ∷ rest → AreLines xs (new ++ more)
      go o rest is =
          let a = appends o rest is in
          let step : AreLines (o ∷ (rest ++ drop n xs)) (auction_lines o.symbol a.0 ++ more) =
          auction o rest (drop n xs) a.0 more (rest_same o rest is) (without o rest is other) (subst (λ m. Settles m a.0) is a.1) lines in
          let all = h (auction_lines o.symbol a.0 ++ more) (subst (λ l. AreLines l (auction_lines o.symbol a.0 ++ more)) (sym (whole o rest is)) step) in
          let e : old ++ (auction_lines o.symbol a.0 ++ more) ≡ new ++ more = sym (again old (auction_lines o.symbol a.0) more) ∙ ap (λ l. l ++ more) (sym a.2) in
          subst (AreLines xs) e all
