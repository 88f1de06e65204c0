-- Names of at most eight bytes, whose first eight are one number.
use Rattle.std.proofs.Common.{◌≡◌, ℕ, zero, suc, ◌-◌, ◌<◌, ◌≤◌, List, [], ◌∷◌, ◌++◌, length, take, replicate, get_or, arith, lit<, refl, sym, ap, subst, ◌∙◌, length-take-le}
use Rattle.std.specs.Int.{from_be_bytes, to_be_bytes, w64}
use Rattle.std.specs.Str.{IsAscii}
use Rattle.std.proofs.lemmas.List.{take-take}
use Rattle.std.proofs.lemmas.Nat.{be_bytes_8}
use Rattle.df_frozen.specs.Limits.{longest_name}
use Rattle.df_frozen.specs.code.NameBytes.{IsKept, ascii_name, head_of, padded-take}

-- a number of eight bytes is that of the first eight
head_take : (bs : List ℕ) → 8 ≤ length bs → from_be_bytes w64 (take 8 bs) ≡ from_be_bytes w64 bs
head_take (a ∷ b ∷ c ∷ d ∷ e ∷ f ∷ g ∷ h ∷ bs) le = refl
head_take [] le = absurd (omega (arith, le))
head_take (a ∷ []) le = absurd (omega (arith, le))
head_take (a ∷ b ∷ []) le = absurd (omega (arith, le))
head_take (a ∷ b ∷ c ∷ []) le = absurd (omega (arith, le))
head_take (a ∷ b ∷ c ∷ d ∷ []) le = absurd (omega (arith, le))
head_take (a ∷ b ∷ c ∷ d ∷ e ∷ []) le = absurd (omega (arith, le))
head_take (a ∷ b ∷ c ∷ d ∷ e ∷ f ∷ []) le = absurd (omega (arith, le))
head_take (a ∷ b ∷ c ∷ d ∷ e ∷ f ∷ g ∷ []) le = absurd (omega (arith, le))

-- texts and zeros are bytes
bytes_padded : (xs : List ℕ) (k : ℕ) → IsAscii xs → (i : ℕ) → get_or (xs ++ replicate k 0) i 0 < 256
bytes_padded [] zero h i = lit< tt
bytes_padded [] (suc k) h zero = lit< tt
bytes_padded [] (suc k) h (suc i) = bytes_padded [] k h i
bytes_padded (x ∷ xs) k h zero = omega (arith, h 0)
bytes_padded (x ∷ xs) k h (suc i) = bytes_padded xs k (λ j. h (suc j)) i

bytes_taken : (n : ℕ) (bs : List ℕ) → ((i : ℕ) → get_or bs i 0 < 256) → (i : ℕ) → get_or (take n bs) i 0 < 256
bytes_taken zero bs h i = lit< tt
bytes_taken (suc n) [] h i = lit< tt
bytes_taken (suc n) (b ∷ bs) h zero = h 0
bytes_taken (suc n) (b ∷ bs) h (suc i) = bytes_taken n bs (λ j. h (suc j)) i

-- the first eight bytes are those of their number
eight_of : (bytes : List ℕ) (n : ℕ) → IsKept bytes n → to_be_bytes w64 (head_of (take n bytes)) ≡ take 8 bytes
eight_of bytes n h =
    let fit = subst (λ (bs : List ℕ). (i : ℕ) → get_or bs i 0 < 256) (padded-take bytes n h)
    (bytes_padded (take n bytes) (longest_name - length (take n bytes)) (ascii_name (take n bytes) h.name)) in
    be_bytes_8 (take 8 bytes) (head_of (take n bytes)) (length-take-le 8 bytes (omega (arith, h.whole))) (bytes_taken 8 bytes fit)
    (ap (from_be_bytes w64) (padded-take bytes n h) ∙ sym (head_take bytes (omega (arith, h.whole))))

-- names of as many bytes, at most eight, with one number are one
pub same_by_head : (bytes others : List ℕ) (n : ℕ) → IsKept bytes n → IsKept others n → n ≤ 8 → head_of (take n bytes) ≡ head_of (take n others)
    → take n bytes ≡ take n others
same_by_head bytes others n h k le e =
    let eight : take 8 bytes ≡ take 8 others = sym (eight_of bytes n h) ∙ ap (to_be_bytes w64) e ∙ eight_of others n k in
    sym (take-take n 8 bytes le) ∙ ap (take n) eight ∙ take-take n 8 others le
