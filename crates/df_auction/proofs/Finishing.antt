-- Where the first purchase and the first sale can't trade, the fills clear the orders.
use Rattle.std.proofs.Common.{◌≡◌, ℕ, zero, suc, ◌+◌, ◌-◌, ◌≤◌, ◌<◌, Bool, true, false, cond, not, ◌&&◌, List, [], ◌∷◌, refl, ap, subst, ◌⊎◌, inl, inr, ⊎_elim, arith, nat_le, nat_eq, if◌then◌else◌, append-nil, drop, length, get_or}
use Rattle.std.proofs.lemmas.List.Sums.{sum_by-cons, sum_by-append}
use Rattle.std.proofs.lemmas.Bool.{cases_Bool}
use Rattle.std.proofs.lemmas.Bool.Decides.{nat_tests}
use Rattle.std.proofs.lemmas.Grind.{common_steps}
use Rattle.df_book.specs.declared.order.Order.{Order}
use Rattle.df_auction.specs.declared.lot.Fill.{Fill}
use Rattle.df_auction.specs.declared.lot.Lot.{Lot}
use Rattle.df_auction.specs.Stairs.{limit_of, qty_of, is_purchase, is_sale, buys_at, sells_at, demand, supply}
use Rattle.df_auction.specs.Matching.{given, bought, sold, total, limit_at, qty_at}
use Rattle.df_auction.specs.Ranking.{purchases, sales, GoesThrough}
use Rattle.df_auction.specs.Ranking.GoesThrough.{done}
use Rattle.df_auction.specs.code.Clearing.{Clears, split_of}
use Rattle.df_auction.proofs.Sides.{given-cons, given-append, total_at_most, total_at_least}
use Rattle.df_auction.proofs.Sweeping.{Each, each_map, all_of_each, held, held-cons, IsLot, Falls, Rises, Ends, Sweeps, at_front}

no_choice : (n : ℕ) (b : Bool) → n ≡ cond b n n
no_choice n true = refl
no_choice n false = refl

if_both : (n : ℕ) (a b : Bool) → cond (a && b) n 0 ≡ cond b (cond a n 0) 0
if_both n true b = refl
if_both n false true = refl
if_both n false false = refl

-- the quantity of who buys at a price, by the limit
pub buys_if : (t : ℕ) (os : List Order) (k : ℕ) → qty_at (buys_at t) os k ≡ (if nat_le t (limit_at os k) then qty_at is_purchase os k else 0)
buys_if t [] k = no_choice 0 (nat_le t 0)
buys_if t (o ∷ os) zero = if_both (qty_of o) (is_purchase o) (nat_le t (limit_of o))
buys_if t (o ∷ os) (suc k) = buys_if t os k

-- the same of who sells
pub sells_if : (t : ℕ) (os : List Order) (k : ℕ) → qty_at (sells_at t) os k ≡ (if nat_le (limit_at os k) t then qty_at is_sale os k else 0)
sells_if t [] k = no_choice 0 (nat_le 0 t)
sells_if t (o ∷ os) zero = if_both (qty_of o) (is_sale o) (nat_le (limit_of o) t)
sells_if t (o ∷ os) (suc k) = sells_if t os k

-- an order is a purchase or a sale
both : (os : List Order) (k : ℕ) → qty_at is_purchase os k + qty_at is_sale os k ≡ qty_at (λ o. true) os k
both [] k = refl
both (o ∷ os) zero = go o.sell
  where
    go : (b : Bool) → cond (not b) (qty_of o) 0 + cond b (qty_of o) 0 ≡ qty_of o
    go true = omega arith
    go false = omega arith
both (o ∷ os) (suc k) = both os k

module _ (orders : List Order) where
  -- places whose limits differ are two
  differ : (m k : ℕ) → (limit_at orders m ≡ limit_at orders k → ⊥) → nat_eq m k ≡ false
  differ m k ne = ⊎_elim (λ t. let e : m ≡ k = grind (arith, nat_tests) in absurd (ne (ap (limit_at orders) e))) (λ f. f) (cases_Bool (nat_eq m k))

  none_held : (k : ℕ) (xs : List Lot) → Each (λ x. nat_eq x.place k ≡ false) xs → held k xs ≡ 0
  none_held k [] h = refl
  none_held k (x ∷ xs) h = omega (arith, held-cons k x xs, ap (λ b. cond b x.left 0) h.0, none_held k xs h.1)

  none_given : (side : Fill → ℕ) (k : ℕ) (fs : List Fill) → Each (λ f. nat_eq (side f) k ≡ false) fs → given side k fs ≡ 0
  none_given side k [] h = refl
  none_given side k (f ∷ fs) h = omega (arith, given-cons side k f fs, ap (λ b. cond b f.qty 0) h.0, none_given side k fs h.1)

  -- lots with other limits hold nothing of an order
  none_other : (P : ℕ → Type 0) (k : ℕ) (xs : List Lot) → ((n : ℕ) → P n → n ≡ limit_at orders k → ⊥) → Each (IsLot orders) xs
      → Each (λ x. P x.limit) xs → Each (λ x. nat_eq x.place k ≡ false) xs
  none_other P k [] other l h = tt
  none_other P k (x ∷ xs) other l h =
      (differ x.place k (λ e. let a = l.0.limit in other x.limit h.0 (omega arith)), none_other P k xs other l.1 h.1)

  -- lots with limits up to t hold nothing of an order whose limit is above
  none_above : (t k : ℕ) (xs : List Lot) → t < limit_at orders k → Each (IsLot orders) xs → Each (λ x. x.limit ≤ t) xs → held k xs ≡ 0
  none_above t k xs lt l h = none_held k xs (none_other (λ n. n ≤ t) k xs (λ n le e. omega arith) l h)

  -- and lots with limits from t on nothing of one whose limit is below
  none_below : (t k : ℕ) (xs : List Lot) → limit_at orders k < t → Each (IsLot orders) xs → Each (λ x. t ≤ x.limit) xs → held k xs ≡ 0
  none_below t k xs lt l h = none_held k xs (none_other (λ n. t ≤ n) k xs (λ n le e. omega arith) l h)

-- the first two lots can't trade
abbrev pub Stuck : List Lot → List Lot → Type 0
Stuck [] cs = Unit {0}
Stuck (b ∷ bs) [] = Unit {0}
Stuck (b ∷ bs) (c ∷ cs) = b.limit < c.limit

pub stuck_bids : (bids asks : List Lot) (i j : ℕ) → length bids ≤ i → Stuck (drop i bids) (drop j asks)
stuck_bids bids asks i j le = let e : drop i bids ≡ [] = grind (arith, common_steps) in rw e tt

pub stuck_asks : (bids asks : List Lot) (i j : ℕ) → length asks ≤ j → Stuck (drop i bids) (drop j asks)
stuck_asks bids asks i j le = let e : drop j asks ≡ [] = grind (arith, common_steps) in rw e (go (drop i bids))
  where
    go : (bs : List Lot) → Stuck bs []
    go [] = tt
    go (b ∷ bs) = tt

pub stuck_both : (bids asks : List Lot) (i j : ℕ) (b c : Lot) → i < length bids → j < length asks → b ≡ get_or bids i b → c ≡ get_or asks j c → b.limit < c.limit → Stuck (drop i bids) (drop j asks)
stuck_both bids asks i j b c lti ltj eb ec lt = let fb = at_front bids i b lti eb in let fc = at_front asks j c ltj ec in rw (fb, fc) lt

pub split_small : (orders : List Order) (fills : List Fill) (p : ℕ) (bs cs : List Lot) → Sweeps orders fills p bs cs → split_of bs ≤ 1_000_000_001
split_small orders fills p [] cs h = omega arith
split_small orders fills p (b ∷ bs) cs h = let most = h.bids.0.most in omega arith

lows : (bs : List Lot) → Falls bs → Each (λ x. x.limit ≤ split_of bs - 1) bs
lows [] h = tt
lows (b ∷ bs) h = (omega arith, each_map (λ y. y.limit ≤ b.limit) (λ y. y.limit ≤ b.limit + 1 - 1) bs (λ y le. omega arith) h.0)

highs : (orders : List Order) (bs cs : List Lot) → Stuck bs cs → Each (IsLot orders) cs → Rises cs → Each (λ x. split_of bs ≤ x.limit) cs
highs orders [] cs s l r = each_map (IsLot orders) (λ x. 1 ≤ x.limit) cs (λ x is. is.from_one) l
highs orders (b ∷ bs) [] s l r = tt
highs orders (b ∷ bs) (c ∷ cs) s l r = (omega arith, each_map (λ y. c.limit ≤ y.limit) (λ y. b.limit + 1 ≤ y.limit) cs (λ y le. omega arith) r.0)

split_from : (bs : List Lot) → 1 ≤ split_of bs
split_from [] = omega arith
split_from (b ∷ bs) = omega arith

module _ (orders : List Order) (fills : List Fill) (p : ℕ) (bs cs : List Lot) (h : Sweeps orders fills p bs cs) (stuck : Stuck bs cs) where
  -- a purchase with a limit below those of all buyers got nothing
  no_buyer : (k : ℕ) → limit_at orders k < h.low → bought k fills ≡ 0
  no_buyer k lt = none_given orders (λ f. f.purchase) k fills
      (each_map (λ f. h.low ≤ limit_at orders f.purchase) (λ f. nat_eq f.purchase k ≡ false) fills (λ f le. differ orders f.purchase k (λ e. omega arith)) h.buyers)

  no_seller : (k : ℕ) → p < limit_at orders k → sold k fills ≡ 0
  no_seller k lt = none_given orders (λ f. f.sale) k fills
      (each_map (λ f. limit_at orders f.sale ≤ p) (λ f. nat_eq f.sale k ≡ false) fills (λ f le. differ orders f.sale k (λ e. omega arith)) h.sellers)

  is_above : (t n : ℕ) → nat_le t n ≡ false → n < t
  is_above t n f = grind (arith, nat_tests)

  is_at_most : (t n : ℕ) → nat_le t n ≡ true → t ≤ n
  is_at_most t n f = grind (arith, nat_tests)

  buys_at_price : (k : ℕ) → bought k fills ≤ qty_at (buys_at p) orders k
  buys_at_price k = rw (buys_if p orders k) (⊎_elim
      (λ t. rw t (omega (arith, h.buys k)))
      (λ f. rw f (let lt = is_above p (limit_at orders k) f in let low = h.crossed in omega (arith, no_buyer k (omega arith))))
      (cases_Bool (nat_le p (limit_at orders k))))

  sells_at_price : (k : ℕ) → sold k fills ≤ qty_at (sells_at p) orders k
  sells_at_price k = rw (sells_if p orders k) (⊎_elim
      (λ t. rw t (omega (arith, h.sells k)))
      (λ f. rw f (omega (arith, no_seller k (is_above (limit_at orders k) p f))))
      (cases_Bool (nat_le (limit_at orders k) p)))

  all_bought : (k : ℕ) → qty_at (buys_at (split_of bs)) orders k ≤ bought k fills
  all_bought k = rw (buys_if (split_of bs) orders k) (⊎_elim
      (λ t. let le = is_at_most (split_of bs) (limit_at orders k) t in let one = split_from bs in
      rw t (omega (arith, h.buys k, none_above orders (split_of bs - 1) k bs (omega arith) h.bids (lows bs h.falls))))
      (λ f. rw f (omega arith))
      (cases_Bool (nat_le (split_of bs) (limit_at orders k))))

  all_sold : (k : ℕ) → qty_at (sells_at (split_of bs - 1)) orders k ≤ sold k fills
  all_sold k = rw (sells_if (split_of bs - 1) orders k) (⊎_elim
      (λ t. let le = is_at_most (limit_at orders k) (split_of bs - 1) t in let one = split_from bs in
      rw t (omega (arith, h.sells k, none_below orders (split_of bs) k cs (omega arith) h.asks (highs orders bs cs stuck h.asks h.rises))))
      (λ f. rw f (omega arith))
      (cases_Bool (nat_le (limit_at orders k) (split_of bs - 1))))

  within : (k : ℕ) → bought k fills + sold k fills ≤ qty_at (λ o. true) orders k
  within k = omega (arith, both orders k, h.buys k, h.sells k)

  offered_below : (q : ℕ) → q < p → supply orders q < total fills
  offered_below q lt = ⊎_elim (λ no. absurd (omega (arith, no.1))) ends h.last
    where
      ends : Ends orders fills p → supply orders q < total fills
      ends e = let most = total_at_least (λ f. f.sale) (sells_at q) orders e.front each in
          omega (arith, ap total e.is, sum_by-append (λ f. f.qty) e.front (e.fill ∷ []), sum_by-cons (λ f. f.qty) e.fill [], e.some, most)
        where
          other : (k : ℕ) → limit_at orders k ≤ q → nat_eq e.fill.sale k ≡ false
          other k le = differ orders e.fill.sale k (λ same. omega (arith, e.limit))

          each : (k : ℕ) → qty_at (sells_at q) orders k ≤ sold k e.front
          each k = rw (sells_if q orders k) (⊎_elim
              (λ t. let le = is_at_most (limit_at orders k) q t in
              rw t (omega (
                arith,
                h.sells k,
                none_below orders p k cs (omega arith) h.asks h.high_asks,
                ap (sold k) e.is,
                given-append (λ f. f.sale) k e.front (e.fill ∷ []),
                given-cons (λ f. f.sale) k e.fill [],
                ap (λ b. cond b e.fill.qty 0) (other k le),
              )))
              (λ f. rw f (omega arith))
              (cases_Bool (nat_le (limit_at orders k) q)))

  traded : ((fills ≡ []) × (p ≡ 0)) ⊎ ((0 < total fills) × (1 ≤ p))
  traded = ⊎_elim (λ no. inl no)
      (λ e. inr (omega (arith, ap total e.is, sum_by-append (λ f. f.qty) e.front (e.fill ∷ []), sum_by-cons (λ f. f.qty) e.fill [], e.some), e.from_one))
      h.last

  through : GoesThrough (total fills) (purchases orders) (sales orders) fills
  through = let e : total fills + 0 ≡ total fills = omega arith in
      subst (λ n. GoesThrough n (purchases orders) (sales orders) fills) e
      (subst (λ l. GoesThrough (total fills + 0) (purchases orders) (sales orders) l) (append-nil fills) (h.through 0 [] (done bs cs)))

module _ (orders : List Order) (fills : List Fill) (p : ℕ) (cs : List Lot) where
  one_of : (n : ℕ) (c : Bool) → 0 < n → (if c then 1 else 0) ≤ (if c then n else 0)
  one_of n true lt = omega arith
  one_of n false lt = omega arith

  no_one : (n : ℕ) (c : Bool) → c ≡ false → cond c n 0 ≡ 0
  no_one n c e = ap (λ c. cond c n 0) e

  -- more is asked for below the split, since something is left of a purchase
  asked_below : (bs : List Lot) → Sweeps orders fills p bs cs → Stuck bs cs → 1 < split_of bs → total fills < demand orders (split_of bs - 1)
  asked_below [] h stuck lt = absurd (omega arith)
  asked_below (b ∷ bs) h stuck lt =
      let e : b.limit ≡ b.limit + 1 - 1 = omega arith in
      subst (λ t. total fills < demand orders t) e
      (omega (arith, total_at_most (λ f. f.purchase) (buys_at b.limit) orders (extra ∷ fills) each, sum_by-cons (λ f. f.qty) extra fills))
    where
      extra : Fill
      extra = record { purchase = b.place; sale = 0; qty = 1 }

      each : (k : ℕ) → given (λ f. f.purchase) k (extra ∷ fills) ≤ qty_at (buys_at b.limit) orders k
      each k = rw (buys_if b.limit orders k) (⊎_elim
          (λ t. rw t (omega (arith, given-cons (λ f. f.purchase) k extra fills, h.buys k, held-cons k b bs, one_of b.left (nat_eq b.place k) h.bids.0.some)))
          (λ f. let below = is_above orders fills p (b ∷ bs) cs h stuck b.limit (limit_at orders k) f in
          let other = differ orders b.place k (λ same. omega (arith, h.bids.0.limit)) in
          rw f (omega (
            arith,
            given-cons (λ f. f.purchase) k extra fills,
            no_one 1 (nat_eq b.place k) other,
            no_buyer orders fills p (b ∷ bs) cs h stuck k (omega (arith, h.low_bids.0)),
          )))
          (cases_Bool (nat_le b.limit (limit_at orders k))))

-- where the sweep stops the orders are cleared
pub finish : (orders : List Order) (fills : List Fill) (p : ℕ) (bs cs : List Lot) → Sweeps orders fills p bs cs → Stuck bs cs → Clears orders fills p (split_of bs)
finish orders fills p bs cs h stuck = record {
  through = through orders fills p bs cs h stuck;
  matching = record { buys = buys_at_price orders fills p bs cs h stuck; sells = sells_at_price orders fills p bs cs h stuck };
  placed = all_of_each (λ f. (f.purchase < length orders) × (f.sale < length orders)) fills h.placed;
  within = within orders fills p bs cs h stuck;
  all_bought = all_bought orders fills p bs cs h stuck;
  all_sold = all_sold orders fills p bs cs h stuck;
  split = split_from bs;
  asked_below = asked_below orders fills p cs bs h stuck;
  offered_below = offered_below orders fills p bs cs h stuck;
  traded = traded orders fills p bs cs h stuck;
}
