-- What the fills give to the orders of one kind, against the quantity of those orders.
use Rattle.std.proofs.Common.{◌≡◌, ℕ, zero, suc, ◌+◌, ◌≤◌, ◌<◌, Bool, true, false, cond, List, [], ◌∷◌, ◌++◌, refl, sym, ap, ◌∙◌, ⊎_elim, arith, sum_by, filter, nat_le, nat_eq, if◌then◌else◌, ◌-◌, drop, get_or, length, map}
use Rattle.std.proofs.lemmas.List.Sums.{sum_by-cons, sum_by-append}
use Rattle.std.proofs.lemmas.Bool.{cases_Bool}
use Rattle.std.proofs.lemmas.Grind.{common_steps}
use Rattle.std.proofs.Math.Seq.{drop-cons}
use Rattle.std.proofs.lemmas.Bool.Decides.{nat_tests}
use Rattle.df_book.specs.declared.order.Order.{Order}
use Rattle.df_auction.specs.declared.lot.Fill.{Fill}
use Rattle.df_auction.specs.Stairs.{qty_of, qty_among}
use Rattle.df_auction.specs.Matching.{given, qty_at, total, read_at}

-- what the fills give to the places from k on
abbrev pub beyond : (Fill → ℕ) → ℕ → List Fill → ℕ
beyond side k fills = sum_by (λ f. if nat_le k (side f) then f.qty else 0) fills

module _ (side : Fill → ℕ) where
  pub given-cons : (k : ℕ) (f : Fill) (fs : List Fill) → given side k (f ∷ fs) ≡ (if nat_eq (side f) k then f.qty else 0) + given side k fs
  given-cons k f fs = sum_by-cons (λ f. if nat_eq (side f) k then f.qty else 0) f fs

  beyond-cons : (k : ℕ) (f : Fill) (fs : List Fill) → beyond side k (f ∷ fs) ≡ (if nat_le k (side f) then f.qty else 0) + beyond side k fs
  beyond-cons k f fs = sum_by-cons (λ f. if nat_le k (side f) then f.qty else 0) f fs

  one-step : (k n q : ℕ) → (if nat_le k n then q else 0) ≡ (if nat_eq n k then q else 0) + (if nat_le (k + 1) n then q else 0)
  one-step k n q = grind (arith, nat_tests)

  beyond-step : (k : ℕ) (fills : List Fill) → beyond side k fills ≡ given side k fills + beyond side (k + 1) fills
  beyond-step k [] = refl
  beyond-step k (f ∷ fs) = omega (arith, beyond-cons k f fs, beyond-cons (k + 1) f fs, given-cons k f fs, one-step k (side f) f.qty, beyond-step k fs)

  beyond-none : (fills : List Fill) (k : ℕ) → ((j : ℕ) → given side (k + j) fills ≤ 0) → beyond side k fills ≤ 0
  beyond-none [] k h = omega arith
  beyond-none (f ∷ fs) k h = omega (arith, beyond-cons k f fs, here, beyond-none fs k (λ j. omega (arith, h j, given-cons (k + j) f fs)))
    where
      at : (n j q : ℕ) → n ≡ k + j → (if nat_eq n (k + j) then q else 0) ≡ q
      at n j q e = grind (arith, nat_tests)

      here : (if nat_le k (side f) then f.qty else 0) ≤ 0
      here = ⊎_elim
          (λ t. let le : k ≤ side f = grind (arith, nat_tests) in
          let e : side f ≡ k + (side f - k) = omega arith in
          rw t (omega (arith, h (side f - k), given-cons (k + (side f - k)) f fs, at (side f) (side f - k) f.qty e)))
          (λ f'. rw f' (omega arith))
          (cases_Bool (nat_le k (side f)))

  from-zero : (n q : ℕ) → (if nat_le 0 n then q else 0) ≡ q
  from-zero n q = grind (arith, nat_tests)

  beyond-all : (fills : List Fill) → beyond side 0 fills ≡ total fills
  beyond-all [] = refl
  beyond-all (f ∷ fs) = omega (arith, beyond-cons 0 f fs, sum_by-cons (λ f. f.qty) f fs, from-zero (side f) f.qty, beyond-all fs)

pub among-cons : (P : Order → Bool) (o : Order) (os : List Order) → qty_among P (o ∷ os) ≡ (if P o then qty_of o else 0) + qty_among P os
among-cons P o os = go (P o)
  where
    go : (b : Bool) → sum_by qty_of (cond b (o ∷ filter P os) (filter P os)) ≡ cond b (qty_of o) 0 + sum_by qty_of (filter P os)
    go true = sum_by-cons qty_of o (filter P os)
    go false = omega arith

module _ (side : Fill → ℕ) (P : Order → Bool) where
  next_place : (k j : ℕ) (fills : List Fill) → given side (k + suc j) fills ≡ given side (k + 1 + j) fills
  next_place k j fills = let e : k + suc j ≡ k + 1 + j = omega arith in ap (λ n. given side n fills) e

  first_place : (k : ℕ) (fills : List Fill) → given side (k + 0) fills ≡ given side k fills
  first_place k fills = let e : k + 0 ≡ k = omega arith in ap (λ n. given side n fills) e

  at_most : (os : List Order) (k : ℕ) (fills : List Fill) → ((j : ℕ) → given side (k + j) fills ≤ qty_at P os j) → beyond side k fills ≤ qty_among P os
  at_most [] k fills h = beyond-none side fills k h
  at_most (o ∷ os) k fills h = omega (
    arith,
    beyond-step side k fills,
    among-cons P o os,
    h 0,
    first_place k fills,
    at_most os (k + 1) fills (λ j. let g : given side (k + suc j) fills ≤ qty_at P os j = h (suc j) in omega (arith, g, next_place k j fills)),
  )

  at_least : (os : List Order) (k : ℕ) (fills : List Fill) → ((j : ℕ) → qty_at P os j ≤ given side (k + j) fills) → qty_among P os ≤ beyond side k fills
  at_least [] k fills h = omega arith
  at_least (o ∷ os) k fills h = omega (
    arith,
    beyond-step side k fills,
    among-cons P o os,
    h 0,
    first_place k fills,
    at_least os (k + 1) fills (λ j. let g : qty_at P os j ≤ given side (k + suc j) fills = h (suc j) in omega (arith, g, next_place k j fills)),
  )

  from_zero : (k : ℕ) (fills : List Fill) → given side (0 + k) fills ≡ given side k fills
  from_zero k fills = let e : 0 + k ≡ k = omega arith in ap (λ n. given side n fills) e

  -- who gets no more than the orders of the kind have, in all gets no more than they have
  pub total_at_most : (os : List Order) (fills : List Fill) → ((k : ℕ) → given side k fills ≤ qty_at P os k) → total fills ≤ qty_among P os
  total_at_most os fills h = omega (arith, beyond-all side fills, at_most os 0 fills (λ j. omega (arith, h j, from_zero j fills)))

  -- where each order of the kind got all it has, the fills are in all at least that
  pub total_at_least : (os : List Order) (fills : List Fill) → ((k : ℕ) → qty_at P os k ≤ given side k fills) → qty_among P os ≤ total fills
  total_at_least os fills h = omega (arith, beyond-all side fills, at_least os 0 fills (λ j. omega (arith, h j, from_zero j fills)))

-- fills that all go to other places give nothing to this one
pub given-append : (side : Fill → ℕ) (k : ℕ) (xs ys : List Fill) → given side k (xs ++ ys) ≡ given side k xs + given side k ys
given-append side k xs ys = sum_by-append (λ f. if nat_eq (side f) k then f.qty else 0) xs ys

-- the first order of those from a place on
pub among-drop : (P : Order → Bool) (orders : List Order) (k : ℕ) (o : Order) → k < length orders → o ≡ get_or orders k o → qty_among P (drop k orders) ≡ (if P o then qty_of o else 0) + qty_among P (drop (k + 1) orders)
among-drop P orders k o lt e =
    let d = drop-cons orders k o lt in
    let f : drop k orders ≡ o ∷ drop (suc k) orders = cc in
    let g : k + 1 ≡ suc k = omega arith in
    ap (qty_among P) f ∙ (among-cons P o (drop (suc k) orders) ∙ ap (λ n. (if P o then qty_of o else 0) + qty_among P (drop n orders)) (sym g))

pub among-none : (P : Order → Bool) (orders : List Order) (k : ℕ) → length orders ≤ k → qty_among P (drop k orders) ≡ 0
among-none P orders k le = let e : drop k orders ≡ [] = grind (arith, common_steps) in ap (qty_among P) e

-- what is read of the order at a place
pub read_is : {X : Type 0} (f : Order → X) (d : X) (orders : List Order) (k : ℕ) (o : Order) → k < length orders → o ≡ get_or orders k o → read_at f d orders k ≡ f o
read_is f d [] k o lt e = absurd (omega arith)
read_is f d (p ∷ orders) zero o lt e = ap f (sym e)
read_is f d (p ∷ orders) (suc k) o lt e = read_is f d orders k o (omega arith) e

pub read_map : (orders : List Order) (k : ℕ) → get_or (map qty_of orders) k 0 ≡ qty_at (λ o. true) orders k
read_map [] k = refl
read_map (o ∷ orders) zero = refl
read_map (o ∷ orders) (suc k) = read_map orders k

pub this-place : (m n q : ℕ) → m ≡ n → (if nat_eq m n then q else 0) ≡ q
this-place m n q e = grind (arith, nat_tests)

-- the first fill of those from a place on
pub given-drop : (side : Fill → ℕ) (n : ℕ) (fills : List Fill) (k : ℕ) (f : Fill) → k < length fills → f ≡ get_or fills k f → given side n (drop k fills) ≡ (if nat_eq (side f) n then f.qty else 0) + given side n (drop (k + 1) fills)
given-drop side n fills k f lt e =
    let d = drop-cons fills k f lt in
    let g : drop k fills ≡ f ∷ drop (suc k) fills = cc in
    let h : k + 1 ≡ suc k = omega arith in
    ap (given side n) g ∙ (given-cons side n f (drop (suc k) fills) ∙ ap (λ m. (if nat_eq (side f) n then f.qty else 0) + given side n (drop m fills)) (sym h))
