-- Quantities: what two orders trade, and whether anything is left.
use Rattle.std.proofs.Common.{◌≡◌, Bool, true, false, cond, refl, subst, w64, to_z, of_z, arith}
use Rattle.std.proofs.lemmas.Int.{ints, to_z-of_z}
use Rattle.std.specs.Prelude.{ℤ, pos, ◌-ℤ◌, ◌≤ℤ◌, int_lt, FitsSigned}
use Rattle.df_book.specs.Submitting.{lesser}

pub lesser_bounds : (a b : ℤ) → pos 1 ≤ℤ a → pos 1 ≤ℤ b → (pos 1 ≤ℤ lesser a b) × (lesser a b ≤ℤ a) × (lesser a b ≤ℤ b)
lesser_bounds a b h k = go (int_lt a b) refl
  where
    go : (c : Bool) → int_lt a b ≡ c → (pos 1 ≤ℤ cond c a b) × (cond c a b ≤ℤ a) × (cond c a b ≤ℤ b)
    go true e = (h, grind (arith, ints), grind (arith, ints))
    go false e = (k, grind (arith, ints), grind (arith, ints))

pub none_left : (z : ℤ) → FitsSigned w64 z → int_lt (to_z w64 (of_z w64 z)) (pos 1) ≡ true → int_lt (pos 0) z ≡ false
none_left z f h = let k : int_lt z (pos 1) ≡ true = subst (λ y. int_lt y (pos 1) ≡ true) (to_z-of_z w64 z f) h in grind (arith, ints)

pub some_left : (z : ℤ) → FitsSigned w64 z → int_lt (to_z w64 (of_z w64 z)) (pos 1) ≡ false → int_lt (pos 0) z ≡ true
some_left z f h = let k : int_lt z (pos 1) ≡ false = subst (λ y. int_lt y (pos 1) ≡ false) (to_z-of_z w64 z f) h in grind (arith, ints)

-- what is left of a quantity after a trade
pub left_fits : (left qty t : ℤ) → FitsSigned w64 left → t ≡ lesser left qty → pos 1 ≤ℤ left → pos 1 ≤ℤ qty → FitsSigned w64 (to_z w64 (of_z w64 left) -ℤ to_z w64 (of_z w64 t))
left_fits left qty t f e h k = let b = lesser_bounds left qty h k in let b0 = b.0 in let b1 = b.1 in omega (arith, ints)

pub left_is : (left qty t : ℤ) → FitsSigned w64 left → t ≡ lesser left qty → pos 1 ≤ℤ left → pos 1 ≤ℤ qty →
    to_z w64 (of_z w64 (to_z w64 (of_z w64 left) -ℤ to_z w64 (of_z w64 t))) ≡ left -ℤ lesser left qty
left_is left qty t f e h k = let b = lesser_bounds left qty h k in let b0 = b.0 in let b1 = b.1 in omega (arith, ints)
