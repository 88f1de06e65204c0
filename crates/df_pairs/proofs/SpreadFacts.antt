-- Sums of spreads, and how large they are.
use Rattle.std.proofs.Common.{◌≡◌, ℕ, ◌+◌, ◌*◌, ◌^◌, ◌≤◌, ◌<◌, List, [], ◌∷◌, ◌++◌, length, refl, sym, ap, subst, ◌∙◌, arith, length-append, pos, negsuc, ℤ, ◌+ℤ◌, neg_ℤ, ◌≤ℤ◌}
use Rattle.std.specs.Prelude.{unsigned_abs, ◌-ℤ◌, ◌*ℤ◌, FitsSigned}
use Rattle.std.specs.Int.{w128}
use mir.Val.{to_z, of_z}
use Rattle.std.proofs.lemmas.Int.{ints, to_z-of_z, unsigned_abs-mul, fits_signed_from_abs}
use Rattle.std.proofs.Math.Nat.{mul-le-mul_left}
use Rattle.std.specs.VecDeque.{deque_len, deque_capacity}
use Rattle.std.specs.declared.collections.VecDeque.{VecDeque}
use Rattle.std.specs.declared.alloc.Global.{Global}
use Rattle.df_pairs.specs.Divergence.{total}
use Rattle.df_pairs.specs.Spreads.{IsSpread, AreSpreads, IsSummed}

-- a sum with one more at the end
total-append : (ds : List ℤ) (d : ℤ) → total (ds ++ d ∷ []) ≡ total ds +ℤ d
total-append [] d = omega (arith, ints)
total-append (e ∷ ds) d = omega (arith, ints, total-append ds d)

-- spreads without the last, and the last
AreSpreads-front : (ds : List ℤ) (d : ℤ) → AreSpreads (ds ++ d ∷ []) → AreSpreads ds
AreSpreads-front [] d h = tt
AreSpreads-front (e ∷ ds) d h = (h.0, AreSpreads-front ds d h.1)

AreSpreads-last : (ds : List ℤ) (d : ℤ) → AreSpreads (ds ++ d ∷ []) → IsSpread d
AreSpreads-last [] d h = h.0
AreSpreads-last (e ∷ ds) d h = AreSpreads-last ds d h.1

-- a sum lies within as many spreads
total-least : (ds : List ℤ) → AreSpreads ds → neg_ℤ (pos (2 ^ 64 * length ds)) ≤ℤ total ds
total-least [] h = omega (arith, ints)
total-least (d ∷ ds) h = omega (arith, ints, total-least ds h.1, h.0.least)

total-most : (ds : List ℤ) → AreSpreads ds → total ds ≤ℤ pos (2 ^ 64 * length ds)
total-most [] h = omega (arith, ints)
total-most (d ∷ ds) h = omega (arith, ints, total-most ds h.1, h.0.most)

-- what lies within m has at most that size
abs-within : (z : ℤ) (m : ℕ) → neg_ℤ (pos m) ≤ℤ z → z ≤ℤ pos m → unsigned_abs z ≤ m
abs-within (pos n) m l h = omega (arith, ints)
abs-within (negsuc n) m l h = omega (arith, ints)

within-least : (z : ℤ) (m : ℕ) → unsigned_abs z ≤ m → neg_ℤ (pos m) ≤ℤ z
within-least (pos n) m h = omega (arith, ints)
within-least (negsuc n) m h = omega (arith, ints)

within-most : (z : ℤ) (m : ℕ) → unsigned_abs z ≤ m → z ≤ℤ pos m
within-most (pos n) m h = omega (arith, ints)
within-most (negsuc n) m h = omega (arith, ints)

spread-size : (d : ℤ) → IsSpread d → unsigned_abs d ≤ 2 ^ 64
spread-size d h = abs-within d (2 ^ 64) h.least h.most

-- the size of a sum, a difference and a product
plus-size : (x y : ℤ) (m n : ℕ) → unsigned_abs x ≤ m → unsigned_abs y ≤ n → unsigned_abs (x +ℤ y) ≤ m + n
plus-size x y m n h k = abs-within (x +ℤ y) (m + n)
    (omega (arith, ints, within-least x m h, within-least y n k))
    (omega (arith, ints, within-most x m h, within-most y n k))

minus-size : (x y : ℤ) (m n : ℕ) → unsigned_abs x ≤ m → unsigned_abs y ≤ n → unsigned_abs (x -ℤ y) ≤ m + n
minus-size x y m n h k = abs-within (x -ℤ y) (m + n)
    (omega (arith, ints, within-least x m h, within-least y n k, within-most y n k))
    (omega (arith, ints, within-most x m h, within-most y n k, within-least y n k))

times-size : (n : ℕ) (d : ℤ) → n < 2 ^ 32 → IsSpread d → unsigned_abs (pos n *ℤ d) ≤ 2 ^ 96
times-size n d below h =
    let product : unsigned_abs (pos n *ℤ d) ≡ n * unsigned_abs d = unsigned_abs-mul (pos n) d in
    let bound = mul-le-mul_left n (spread-size d h) in
    omega (arith, product, bound)

fits : (z : ℤ) → unsigned_abs z ≤ 2 ^ 98 → FitsSigned w128 z
fits z h = fits_signed_from_abs w128 z (omega arith)

-- the sum that is kept is small
pub sum-size : (kept : VecDeque ℤ Global) (sum : ℤ) (most : ℕ) → IsSummed kept sum most → unsigned_abs sum ≤ 2 ^ 96
sum-size kept sum most h =
    let size = abs-within (total kept.items) (2 ^ 64 * length kept.items) (total-least kept.items h.spreads) (total-most kept.items h.spreads) in
    let same = ap unsigned_abs h.summed in
    omega (arith, size, same, h.long, h.few, h.narrow)

-- a deviation is computed without loss
pub deviation-fits : (n : ℕ) (x d sum : ℤ) → x ≡ pos n → n < 2 ^ 32 → IsSpread d → unsigned_abs sum ≤ 2 ^ 96
    → FitsSigned w128 (to_z w128 (of_z w128 (to_z w128 (of_z w128 x) *ℤ to_z w128 (of_z w128 d))) -ℤ to_z w128 (of_z w128 sum))
deviation-fits n x d sum e below h small = subst (λ y. FitsSigned w128 (to_z w128 (of_z w128 (to_z w128 (of_z w128 y) *ℤ to_z w128 (of_z w128 d))) -ℤ to_z w128 (of_z w128 sum))) (sym e)
    (let window_fits = fits (pos n) (omega arith) in
    let spread_fits = fits d (omega (arith, spread-size d h)) in
    let product_fits = fits (pos n *ℤ d) (omega (arith, times-size n d below h)) in
    let sum_fits = fits sum (omega arith) in
    simp to_z-of_z (fits (pos n *ℤ d -ℤ sum) (omega (arith, minus-size (pos n *ℤ d) sum (2 ^ 96) (2 ^ 96) (times-size n d below h) small))))

pub deviation-is : (n : ℕ) (x d sum : ℤ) → x ≡ pos n → n < 2 ^ 32 → IsSpread d → unsigned_abs sum ≤ 2 ^ 96
    → to_z w128 (of_z w128 (to_z w128 (of_z w128 (to_z w128 (of_z w128 x) *ℤ to_z w128 (of_z w128 d))) -ℤ to_z w128 (of_z w128 sum))) ≡ pos n *ℤ d -ℤ sum
deviation-is n x d sum e below h small = subst (λ y. to_z w128 (of_z w128 (to_z w128 (of_z w128 (to_z w128 (of_z w128 y) *ℤ to_z w128 (of_z w128 d))) -ℤ to_z w128 (of_z w128 sum))) ≡ pos n *ℤ d -ℤ sum) (sym e)
    (let window_fits = fits (pos n) (omega arith) in
    let spread_fits = fits d (omega (arith, spread-size d h)) in
    let product_fits = fits (pos n *ℤ d) (omega (arith, times-size n d below h)) in
    let sum_fits = fits sum (omega arith) in
    let all_fits = fits (pos n *ℤ d -ℤ sum) (omega (arith, minus-size (pos n *ℤ d) sum (2 ^ 96) (2 ^ 96) (times-size n d below h) small)) in
    simp to_z-of_z refl)

pub deviation-size : (n : ℕ) (d sum : ℤ) → n < 2 ^ 32 → IsSpread d → unsigned_abs sum ≤ 2 ^ 96 → unsigned_abs (pos n *ℤ d -ℤ sum) ≤ 2 ^ 97
deviation-size n d sum below h small = omega (arith, minus-size (pos n *ℤ d) sum (2 ^ 96) (2 ^ 96) (times-size n d below h) small)

-- the last spread goes
pub popped-fits : (old new : VecDeque ℤ Global) (sum d : ℤ) (most : ℕ) → IsSummed old sum most → old.items ≡ new.items ++ d ∷ []
    → FitsSigned w128 (to_z w128 (of_z w128 sum) -ℤ to_z w128 (of_z w128 d))
popped-fits old new sum d most h e =
    let size = spread-size d (AreSpreads-last new.items d (subst AreSpreads e h.spreads)) in
    let spread_fits = fits d (omega (arith, size)) in
    let sum_fits = fits sum (omega (arith, sum-size old sum most h)) in
    simp to_z-of_z (fits (sum -ℤ d) (omega (arith, minus-size sum d (2 ^ 96) (2 ^ 64) (sum-size old sum most h) size)))

pub popped : (old new : VecDeque ℤ Global) (sum d : ℤ) (most : ℕ) → IsSummed old sum most → old.items ≡ new.items ++ d ∷ [] → deque_len new + 1 ≡ deque_len old → deque_capacity new ≡ deque_capacity old
    → IsSummed new (to_z w128 (of_z w128 (to_z w128 (of_z w128 sum) -ℤ to_z w128 (of_z w128 d)))) most
popped old new sum d most h e l c =
    let size = spread-size d (AreSpreads-last new.items d (subst AreSpreads e h.spreads)) in
    let spread_fits = fits d (omega (arith, size)) in
    let sum_fits = fits sum (omega (arith, sum-size old sum most h)) in
    let all_fits = fits (sum -ℤ d) (omega (arith, minus-size sum d (2 ^ 96) (2 ^ 64) (sum-size old sum most h) size)) in
    let split : total old.items ≡ total new.items +ℤ d = ap total e ∙ total-append new.items d in
    let left : sum -ℤ d ≡ total new.items = omega (arith, ints, h.summed, split) in
    let longer = ap length e ∙ length-append new.items (d ∷ []) in
    record {
      summed = simp to_z-of_z left;
      spreads = AreSpreads-front new.items d (subst AreSpreads e h.spreads);
      long = omega (arith, longer, h.long, l);
      few = omega (arith, h.few, l);
      room = omega (arith, h.room, c);
      some = h.some;
      narrow = h.narrow;
    }

-- a spread comes
pub pushed-fits : (old : VecDeque ℤ Global) (sum d : ℤ) (most : ℕ) → IsSummed old sum most → IsSpread d
    → FitsSigned w128 (to_z w128 (of_z w128 sum) +ℤ to_z w128 (of_z w128 d))
pushed-fits old sum d most h s =
    let spread_fits = fits d (omega (arith, spread-size d s)) in
    let sum_fits = fits sum (omega (arith, sum-size old sum most h)) in
    simp to_z-of_z (fits (sum +ℤ d) (omega (arith, plus-size sum d (2 ^ 96) (2 ^ 64) (sum-size old sum most h) (spread-size d s))))

pub pushed : (old new : VecDeque ℤ Global) (sum d : ℤ) (most : ℕ) → IsSummed old sum most → IsSpread d → deque_len old < most → new.items ≡ d ∷ old.items → deque_len new ≡ deque_len old + 1 → deque_capacity new ≡ deque_capacity old
    → IsSummed new (to_z w128 (of_z w128 (to_z w128 (of_z w128 sum) +ℤ to_z w128 (of_z w128 d)))) most
pushed old new sum d most h s less e l c =
    let spread_fits = fits d (omega (arith, spread-size d s)) in
    let sum_fits = fits sum (omega (arith, sum-size old sum most h)) in
    let all_fits = fits (sum +ℤ d) (omega (arith, plus-size sum d (2 ^ 96) (2 ^ 64) (sum-size old sum most h) (spread-size d s))) in
    let whole = ap total e in
    let more : sum +ℤ d ≡ total new.items = omega (arith, ints, h.summed, whole) in
    let longer = ap length e in
    record {
      summed = simp to_z-of_z more;
      spreads = subst AreSpreads (sym e) (s, h.spreads);
      long = omega (arith, longer, h.long, l);
      few = omega (arith, l, less);
      room = omega (arith, h.room, c);
      some = h.some;
      narrow = h.narrow;
    }
