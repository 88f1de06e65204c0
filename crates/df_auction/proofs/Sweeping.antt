-- What holds at each moment of a sweep, and that a trade of the first two lots keeps it.
use Rattle.std.proofs.Common.{◌≡◌, ℕ, zero, suc, ◌+◌, ◌-◌, ◌≤◌, ◌<◌, Bool, true, false, cond, List, [], ◌∷◌, ◌++◌, refl, sym, ap, subst, ◌∙◌, ◌⊎◌, inr, arith, sum_by, min, nat_lt, nat_eq, if◌then◌else◌, append_assoc, drop, take, length, get_or}
use Rattle.std.specs.Prelude.{All}
use Rattle.std.proofs.lemmas.List.Sums.{sum_by-cons, sum_by-append}
use Rattle.std.proofs.lemmas.Bool.Decides.{nat_tests}
use Rattle.std.proofs.lemmas.Grind.{common_steps}
use Rattle.std.proofs.Math.Seq.{drop-cons}
use Rattle.df_book.specs.declared.order.Order.{Order}
use Rattle.df_auction.specs.declared.lot.Fill.{Fill}
use Rattle.df_auction.specs.declared.lot.Lot.{Lot}
use Rattle.df_auction.specs.Stairs.{is_purchase, is_sale}
use Rattle.df_auction.specs.Matching.{given, bought, sold, total, limit_at, qty_at}
use Rattle.df_auction.specs.Ranking.{after, fill_of, purchases, sales, GoesThrough}
use Rattle.df_auction.specs.Ranking.GoesThrough.{trade}
use Rattle.df_auction.proofs.Sides.{given-cons, given-append}

-- each of a list
abbrev pub Each : {X : Type 0} → (X → Type 0) → List X → Type 0
Each P [] = Unit {0}
Each P (x ∷ xs) = P x × Each P xs

pub each_map : {X : Type 0} (P Q : X → Type 0) (xs : List X) → ((x : X) → P x → Q x) → Each P xs → Each Q xs
each_map P Q [] f h = tt
each_map P Q (x ∷ xs) f h = (f x h.0, each_map P Q xs f h.1)

pub all_of_each : {X : Type 0} (P : X → Type 0) (xs : List X) → Each P xs → All P xs
all_of_each P [] h k d lt = absurd (omega arith)
all_of_each P (x ∷ xs) h zero d lt = h.0
all_of_each P (x ∷ xs) h (suc k) d lt = all_of_each P xs h.1 k d (omega arith)

pub each_push : {X : Type 0} (P : X → Type 0) (xs : List X) (x : X) → Each P xs → P x → Each P (xs ++ x ∷ [])
each_push P [] x h p = (p, tt)
each_push P (y ∷ ys) x h p = (h.0, each_push P ys x h.1 p)

-- what lots at a place hold
abbrev pub held : ℕ → List Lot → ℕ
held k lots = sum_by (λ x. if nat_eq x.place k then x.left else 0) lots

pub held-cons : (k : ℕ) (x : Lot) (xs : List Lot) → held k (x ∷ xs) ≡ (if nat_eq x.place k then x.left else 0) + held k xs
held-cons k x xs = sum_by-cons (λ x. if nat_eq x.place k then x.left else 0) x xs

-- a lot of an order, of which something is left
pub record IsLot (orders : List Order) (x : Lot) : Type 0 where
  pub limit : x.limit ≡ limit_at orders x.place
  pub some : 0 < x.left
  pub from_one : 1 ≤ x.limit
  pub most : x.limit ≤ 1_000_000_000

-- an order that has a limit is there
inside : (orders : List Order) (k : ℕ) → 1 ≤ limit_at orders k → k < length orders
inside [] k h = absurd (omega arith)
inside (o ∷ orders) zero h = omega arith
inside (o ∷ orders) (suc k) h = omega (arith, inside orders k h)

-- limits fall, or rise
abbrev pub Falls : List Lot → Type 0
Falls [] = Unit {0}
Falls (x ∷ xs) = Each (λ y. y.limit ≤ x.limit) xs × Falls xs

abbrev pub Rises : List Lot → Type 0
Rises [] = Unit {0}
Rises (x ∷ xs) = Each (λ y. x.limit ≤ y.limit) xs × Rises xs

-- fills whose last one is of a sale with limit p
pub record Ends (orders : List Order) (fills : List Fill) (p : ℕ) : Type 0 where
  pub front : List Fill
  pub fill : Fill
  pub is : fills ≡ front ++ fill ∷ []
  pub limit : limit_at orders fill.sale ≡ p
  pub some : 0 < fill.qty
  pub from_one : 1 ≤ p

pub record Sweeps (orders : List Order) (fills : List Fill) (p : ℕ) (bs cs : List Lot) : Type 0 where
  pub through : (v : ℕ) (more : List Fill) → GoesThrough v bs cs more → GoesThrough (total fills + v) (purchases orders) (sales orders) (fills ++ more)
  pub buys : (k : ℕ) → bought k fills + held k bs ≡ qty_at is_purchase orders k
  pub sells : (k : ℕ) → sold k fills + held k cs ≡ qty_at is_sale orders k
  pub bids : Each (IsLot orders) bs
  pub asks : Each (IsLot orders) cs
  pub falls : Falls bs
  pub rises : Rises cs
  pub low : ℕ
  pub low_bids : Each (λ x. x.limit ≤ low) bs
  pub high_asks : Each (λ x. p ≤ x.limit) cs
  pub buyers : Each (λ f. low ≤ limit_at orders f.purchase) fills
  pub sellers : Each (λ f. limit_at orders f.sale ≤ p) fills
  pub crossed : p ≤ low
  pub placed : Each (λ f. (f.purchase < length orders) × (f.sale < length orders)) fills
  pub last : ((fills ≡ []) × (p ≡ 0)) ⊎ Ends orders fills p

module _ (q : ℕ) (x : Lot) (xs : List Lot) where
  each_after : (P : Lot → Type 0) → (q < x.left → P x → P (record x { left = x.left - q })) → Each P (x ∷ xs) → Each P (after q (x ∷ xs))
  each_after P f h = go (nat_lt q x.left) (λ t. let lt : q < x.left = grind (arith, nat_tests) in lt)
    where
      go : (b : Bool) → (b ≡ true → q < x.left) → Each P (cond b (record x { left = x.left - q } ∷ xs) xs)
      go true lt = (f (lt refl) h.0, h.1)
      go false lt = h.1

  falls_after : Falls (x ∷ xs) → Falls (after q (x ∷ xs))
  falls_after h = go (nat_lt q x.left)
    where
      go : (b : Bool) → Falls (cond b (record x { left = x.left - q } ∷ xs) xs)
      go true = h
      go false = h.1

  rises_after : Rises (x ∷ xs) → Rises (after q (x ∷ xs))
  rises_after h = go (nat_lt q x.left)
    where
      go : (b : Bool) → Rises (cond b (record x { left = x.left - q } ∷ xs) xs)
      go true = h
      go false = h.1

  split-left : (n l : ℕ) (t : Bool) → q ≤ n → (if t then n - q else 0) + l + (if t then q else 0) ≡ (if t then n else 0) + l
  split-left n l true h = omega arith
  split-left n l false h = omega arith

  all-left : (n l : ℕ) (t : Bool) → q ≡ n → l + (if t then q else 0) ≡ (if t then n else 0) + l
  all-left n l true h = omega arith
  all-left n l false h = omega arith

  held_after : (k : ℕ) → q ≤ x.left → held k (after q (x ∷ xs)) + (if nat_eq x.place k then q else 0) ≡ held k (x ∷ xs)
  held_after k le = go (nat_lt q x.left) (λ f. let e : q ≡ x.left = grind (arith, nat_tests) in e)
    where
      go : (b : Bool) → (b ≡ false → q ≡ x.left) → held k (cond b (record x { left = x.left - q } ∷ xs) xs) + (if nat_eq x.place k then q else 0) ≡ held k (x ∷ xs)
      go true f = omega (arith, held-cons k (record x { left = x.left - q }) xs, held-cons k x xs, split-left x.left (held k xs) (nat_eq x.place k) le)
      go false f = omega (arith, held-cons k x xs, all-left x.left (held k xs) (nat_eq x.place k) (f refl))

-- a list with a last element has its total
total-push : (fills : List Fill) (f : Fill) → total (fills ++ f ∷ []) ≡ total fills + f.qty
total-push fills f = omega (arith, sum_by-append (λ f. f.qty) fills (f ∷ []), sum_by-cons (λ f. f.qty) f [])

given-push : (side : Fill → ℕ) (k : ℕ) (fills : List Fill) (f : Fill) → given side k (fills ++ f ∷ []) ≡ given side k fills + (if nat_eq (side f) k then f.qty else 0)
given-push side k fills f = omega (arith, given-append side k fills (f ∷ []), given-cons side k f [])

module _ (orders : List Order) (fills : List Fill) (p : ℕ) (b c : Lot) (bs cs : List Lot) (h : Sweeps orders fills p (b ∷ bs) (c ∷ cs)) (meets : c.limit ≤ b.limit) where
  abbrev pub q : ℕ
  q = min b.left c.left

  abbrev pub traded : List Fill
  traded = fills ++ fill_of b c ∷ []

  within_both : (q ≤ b.left) × (q ≤ c.left) × (0 < q)
  within_both = let x = h.bids.0.some in let y = h.asks.0.some in (omega arith, omega arith, omega arith)

  goes_through : (v : ℕ) (more : List Fill) → GoesThrough v (after q (b ∷ bs)) (after q (c ∷ cs)) more → GoesThrough (total traded + v) (purchases orders) (sales orders) (traded ++ more)
  goes_through v more g =
      let t : GoesThrough (q + v) (b ∷ bs) (c ∷ cs) (fill_of b c ∷ more) = trade q v b c bs cs more refl within_both.2 g in
      let all = h.through (q + v) (fill_of b c ∷ more) t in
      let e : total (fills ++ fill_of b c ∷ []) + v ≡ total fills + (q + v) = omega (arith, total-push fills (fill_of b c)) in
      let l : (fills ++ fill_of b c ∷ []) ++ more ≡ fills ++ (fill_of b c ∷ more) = simp append_assoc in
      subst (λ n. GoesThrough n (purchases orders) (sales orders) ((fills ++ fill_of b c ∷ []) ++ more)) (sym e)
      (subst (λ f. GoesThrough (total fills + (q + v)) (purchases orders) (sales orders) f) (sym l) all)

  keeps_lot : (x : Lot) → q < x.left → IsLot orders x → IsLot orders (record x { left = x.left - q })
  keeps_lot x lt l = record { limit = l.limit; some = omega arith; from_one = l.from_one; most = l.most }

  -- the first two lots trade
  pub step : Sweeps orders traded c.limit (after q (b ∷ bs)) (after q (c ∷ cs))
  step = record {
    through = goes_through;
    buys = λ k. omega (arith, h.buys k, given-push (λ f. f.purchase) k fills (fill_of b c), held_after q b bs k within_both.0);
    sells = λ k. omega (arith, h.sells k, given-push (λ f. f.sale) k fills (fill_of b c), held_after q c cs k within_both.1);
    bids = each_after q b bs (IsLot orders) (keeps_lot b) h.bids;
    asks = each_after q c cs (IsLot orders) (keeps_lot c) h.asks;
    falls = falls_after q b bs h.falls;
    rises = rises_after q c cs h.rises;
    low = b.limit;
    low_bids = each_after q b bs (λ x. x.limit ≤ b.limit) (λ lt le. le) (omega arith, h.falls.0);
    high_asks = each_after q c cs (λ x. c.limit ≤ x.limit) (λ lt le. le) (omega arith, h.rises.0);
    buyers = each_push (λ f. b.limit ≤ limit_at orders f.purchase) fills (fill_of b c)
        (each_map (λ f. h.low ≤ limit_at orders f.purchase) (λ f. b.limit ≤ limit_at orders f.purchase) fills (λ f le. omega (arith, h.low_bids.0, le)) h.buyers)
        (omega (arith, h.bids.0.limit));
    sellers = each_push (λ f. limit_at orders f.sale ≤ c.limit) fills (fill_of b c)
        (each_map (λ f. limit_at orders f.sale ≤ p) (λ f. limit_at orders f.sale ≤ c.limit) fills (λ f le. omega (arith, h.high_asks.0, le)) h.sellers)
        (omega (arith, h.asks.0.limit));
    crossed = meets;
    placed = each_push (λ f. (f.purchase < length orders) × (f.sale < length orders)) fills (fill_of b c) h.placed
        (inside orders b.place (omega (arith, h.bids.0.limit, h.bids.0.from_one)), inside orders c.place (omega (arith, h.asks.0.limit, h.asks.0.from_one)));
    last = inr (record { front = fills; fill = fill_of b c; is = refl; limit = sym h.asks.0.limit; some = within_both.2; from_one = h.asks.0.from_one });
  }

pub at_front : (lots : List Lot) (i : ℕ) (x : Lot) → i < length lots → x ≡ get_or lots i x → drop i lots ≡ x ∷ drop (suc i) lots
at_front lots i x lt e = let d = drop-cons lots i x lt in cc

-- what a loan of all of a vector gives back
pub given_back : {X : Type 0} (new old : List X) (n : ℕ) → length new ≡ n → length old ≡ n → take n (new ++ drop (length new) old) ≡ new
given_back new old n e f = grind (arith, common_steps)

-- one turn of the sweep, by the places of the first lots
pub turn : (orders : List Order) (fills more : List Fill) (p : ℕ) (bids asks bids' asks' : List Lot) (i j i' j' : ℕ) (b c : Lot) (f : Fill)
    → Sweeps orders fills p (drop i bids) (drop j asks)
    → i < length bids → j < length asks → b ≡ get_or bids i b → c ≡ get_or asks j c → c.limit ≤ b.limit
    → f ≡ fill_of b c → more ≡ fills ++ f ∷ []
    → drop i' bids' ≡ after f.qty (drop i bids) → drop j' asks' ≡ after f.qty (drop j asks)
    → Sweeps orders more c.limit (drop i' bids') (drop j' asks')
turn orders fills more p bids asks bids' asks' i j i' j' b c f h lti ltj eb ec meets ef em eb' ec' =
    let fb = at_front bids i b lti eb in
    let fc = at_front asks j c ltj ec in
    let h' : Sweeps orders fills p (b ∷ drop (suc i) bids) (c ∷ drop (suc j) asks) = rw (sym fb, sym fc) h in
    let s = step orders fills p b c (drop (suc i) bids) (drop (suc j) asks) h' meets in
    let e1 : drop i' bids' ≡ after (min b.left c.left) (b ∷ drop (suc i) bids) = eb' ∙ (ap (λ g. after g.qty (drop i bids)) ef ∙ ap (after (min b.left c.left)) fb) in
    let e2 : drop j' asks' ≡ after (min b.left c.left) (c ∷ drop (suc j) asks) = ec' ∙ (ap (λ g. after g.qty (drop j asks)) ef ∙ ap (after (min b.left c.left)) fc) in
    let e3 : more ≡ fills ++ fill_of b c ∷ [] = em ∙ ap (λ g. fills ++ g ∷ []) ef in
    rw (e1, e2, e3) s
