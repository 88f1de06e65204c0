-- Names are in the order of the numbers that their first eight bytes are.
use Rattle.std.proofs.Common.{◌≡◌, ℕ, zero, suc, ◌+◌, ◌*◌, ◌<◌, ◌≤◌, true, List, [], ◌∷◌, get_or, arith, lit<, refl, sym, ap, ◌∙◌, ◌⊎◌, inl, inr, Ordering, Less, Equal, Greater}
use Rattle.std.specs.Ordering.{MatchOrdering, nat_cmp, ordering_reverse, ordering_then}
use Rattle.std.specs.Cmp.{nat_cmp_is, ranked, ranks}
use Rattle.std.specs.Cmp.Lexicographic.{nat_list_cmp_total, slice_cmp}
use Rattle.std.proofs.Math.Nat.{mul-le-mul_right}
use Rattle.df_frozen.specs.Name.{is_name}
use Rattle.df_frozen.specs.code.NameBytes.{ascii_name, head_of}

-- what the first of so many bytes counts
abbrev weight : ℕ → ℕ
weight zero = 1
weight (suc k) = 256 * weight k

-- the first so many bytes as a number, with zeros behind all
abbrev number : ℕ → List ℕ → ℕ
number zero bs = 0
number (suc k) [] = 0
number (suc k) (b ∷ bs) = b * weight k + number k bs

abbrev AreBytes : List ℕ → Type 0
AreBytes bs = (i : ℕ) → get_or bs i 0 < 256

weight_some : (k : ℕ) → 0 < weight k
weight_some zero = lit< tt
weight_some (suc k) = omega (arith, weight_some k)

below : (k : ℕ) (bs : List ℕ) → AreBytes bs → number k bs < weight k
below zero bs are = lit< tt
below (suc k) [] are = weight_some (suc k)
below (suc k) (b ∷ bs) are =
    let most : b * weight k ≤ 255 * weight k = mul-le-mul_right (weight k) (omega (arith, are 0)) in
    omega (arith, most, below k bs (λ i. are (suc i)))

-- the first byte decides, or else the others
decided : (x y w m n : ℕ) → m < w → n < w → x * w + m < y * w + n → (r : Ordering) → MatchOrdering r (x < y) (x ≡ y) (y < x)
    → (x < y) ⊎ ((x ≡ y) × (m < n))
decided x y w m n lm ln lt Less h = inl h
decided x y w m n lm ln lt Equal h = inr (h, omega (arith, lt, ap (λ (v : ℕ). v * w) h))
decided x y w m n lm ln lt Greater h =
    let more : (y + 1) * w ≤ x * w = mul-le-mul_right w (omega (arith, h)) in
    absurd (omega (arith, more, lt, ln))

before : (k : ℕ) (xs ys : List ℕ) → AreBytes xs → AreBytes ys → number k xs < number k ys → slice_cmp nat_cmp xs ys ≡ Less
before zero xs ys f g lt = absurd (omega (arith, lt))
before (suc k) [] [] f g lt = absurd (omega (arith, lt))
before (suc k) [] (y ∷ ys) f g lt = refl
before (suc k) (x ∷ xs) [] f g lt = absurd (omega (arith, lt))
before (suc k) (x ∷ xs) (y ∷ ys) f g lt =
    elim (decided x y (weight k) (number k xs) (number k ys) (below k xs (λ i. f (suc i))) (below k ys (λ i. g (suc i))) lt (nat_cmp x y) (ranks x y)) [
      | inl h ↦ ap (λ (r : Ordering). ordering_then r (slice_cmp nat_cmp xs ys)) (sym (nat_cmp_is x y Less h))
      | inr e ↦
          ap (λ (r : Ordering). ordering_then r (slice_cmp nat_cmp xs ys)) (sym (nat_cmp_is x y Equal e.0))
          ∙ (before k xs ys (λ i. f (suc i)) (λ i. g (suc i)) e.1)
    ]

eight : (a b c d e f g h : ℕ)
    → a * weight 7 + b * weight 6 + c * weight 5 + d * weight 4 + e * weight 3 + f * weight 2 + g * weight 1 + h
    ≡ a * weight 7 + (b * weight 6 + (c * weight 5 + (d * weight 4 + (e * weight 3 + (f * weight 2 + (g * weight 1 + (h * 1 + 0)))))))
eight a b c d e f g h = omega arith

-- the first eight bytes of a name are such a number
head_number : (bs : List ℕ) → head_of bs ≡ number 8 bs
head_number [] = refl
head_number (a ∷ []) = eight a 0 0 0 0 0 0 0
head_number (a ∷ b ∷ []) = eight a b 0 0 0 0 0 0
head_number (a ∷ b ∷ c ∷ []) = eight a b c 0 0 0 0 0
head_number (a ∷ b ∷ c ∷ d ∷ []) = eight a b c d 0 0 0 0
head_number (a ∷ b ∷ c ∷ d ∷ e ∷ []) = eight a b c d e 0 0 0
head_number (a ∷ b ∷ c ∷ d ∷ e ∷ f ∷ []) = eight a b c d e f 0 0
head_number (a ∷ b ∷ c ∷ d ∷ e ∷ f ∷ g ∷ []) = eight a b c d e f g 0
head_number (a ∷ b ∷ c ∷ d ∷ e ∷ f ∷ g ∷ h ∷ bs) = eight a b c d e f g h

are_bytes : (bs : List ℕ) → is_name bs ≡ true → AreBytes bs
are_bytes bs is i = omega (arith, ascii_name bs is i)

-- a name with a lesser head is before another
head_before : (xs ys : List ℕ) → is_name xs ≡ true → is_name ys ≡ true → head_of xs < head_of ys → slice_cmp nat_cmp xs ys ≡ Less
head_before xs ys f g lt =
    before 8 xs ys (are_bytes xs f) (are_bytes ys g) (omega (arith, lt, head_number xs, head_number ys))

-- a name with a greater head is behind
head_behind : (xs ys : List ℕ) → is_name xs ≡ true → is_name ys ≡ true → head_of ys < head_of xs → slice_cmp nat_cmp xs ys ≡ Greater
head_behind xs ys f g gt = nat_list_cmp_total.antisymm xs ys ∙ ap ordering_reverse (head_before ys xs g f gt)

-- what two heads tell, unless they are equal
pub head_order : (xs ys : List ℕ) → is_name xs ≡ true → is_name ys ≡ true → (r : Ordering) → r ≡ nat_cmp (head_of xs) (head_of ys) → (r ≡ Equal → ⊥)
    → r ≡ slice_cmp nat_cmp xs ys
head_order xs ys f g Less e other = sym (head_before xs ys f g (ranked (head_of xs) (head_of ys) Less e))
head_order xs ys f g Equal e other = absurd (other refl)
head_order xs ys f g Greater e other = sym (head_behind xs ys f g (ranked (head_of xs) (head_of ys) Greater e))
