-- How many bits there are, and how large a number of so many is.
use Rattle.df_value_text.proofs.Names.{◌≡◌, ℕ, zero, suc, ◌/◌, ◌^◌, ◌<◌, ◌≤◌, Bool, List, length, refl, ap, arith}
use Rattle.std.proofs.Math.Pow.{pow_mono}
use Rattle.df_value_text.specs.code.Brackets.{bits}

pub length-bits : (count n : ℕ) → length (bits count n) ≡ count
length-bits zero n = refl
length-bits (suc count) n = ap suc (length-bits count (n / 2))

-- 33 bits at most hold a number with place for one more
pub small_bits : (count n : ℕ) (bs : List Bool) → bits count n ≡ bs → length bs ≤ 32 → n < 2 ^ count → (count ≤ 32) × (n < 2 ^ 32)
small_bits count n bs is le lt =
    let few : count ≤ 32 = omega (arith, length-bits count n, ap length is) in
    let most : 2 ^ count ≤ 2 ^ 32 = pow_mono few in
    (few, omega arith)
