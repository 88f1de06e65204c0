-- A whole number is read as it is spelled.
use Rattle.df_value_text.proofs.Names.{either_by, byte_refuses, ◌≡◌, ℕ, suc, ◌-◌, ◌^◌, ◌<◌, ◌≤◌, Bool, true, false, cond, eqb, List, [], ◌∷◌, ◌++◌, Ok, Err, refl, sym, ap, ◌∙◌, arith, ◌⊎◌, inl, inr, ℤ, pos, negsuc, decimal, signed_decimal, Bad, Found, IsLocal, Format, told, nowhere, any_low, Of, made, led, fitting, first_at, first_format, digits_at, IsWhole, positive_at, minus, whole_at}
use Rattle.df_value_text.proofs.NumberLaws.{number_goes, first_fits, number_of, number_read, number_found, number_on, number_format, positive_again}

-- ---- numbers above 0

abbrev pub IsPositive : ℕ → ℕ → Type 0
IsPositive most n = (0 < n) × (n ≤ most)

-- c is a digit with which a number above 0 begins
abbrev positive_fits : ℕ → ℕ → Bool
positive_fits most c = cond (eqb c 48) false (first_fits most c)

positive_first : (most : ℕ) (bytes : List ℕ) → first_at (positive_fits most) (number_of most) bytes ≡ positive_at most bytes
positive_first most [] = refl
positive_first most (c ∷ cs) =
    elim (eqb c 48) as (λ z. cond (cond z false (first_fits most c)) (Ok (cond z (0, cs) (digits_at most (c - 48) cs))) (Err (Bad (c ∷ cs)))
    ≡ cond z (Err (Bad (c ∷ cs))) (cond (first_fits most c) (cond z (Ok (0, cs)) (Ok (digits_at most (c - 48) cs))) (Err (Bad (c ∷ cs)))))
    [ true ↦ refl | false ↦ refl ]

positive_found : (most c : ℕ) (cs : List ℕ) → most < 2 ^ 64 → positive_fits most c ≡ true
    → Found decimal (IsPositive most) (number_goes most) (c ∷ cs) (number_of most c cs).0 (number_of most c cs).1
positive_found most c cs wide h =
    elim (told (eqb c 48)) [
      | inl z ↦ absurd (let no : false ≡ true = sym (ap (λ b. cond b false (first_fits most c)) z) ∙ h in cc)
      | inr z ↦
          let digit : first_fits most c ≡ true = sym (ap (λ b. cond b false (first_fits most c)) z) ∙ h in
          let f = number_found most c cs wide digit in
          record { parts = f.parts; fits = (rw z (number_read most c cs wide digit z).positive, f.fits); ends = f.ends }
    ]

pub positive_format : (most : ℕ) → most < 2 ^ 64 → Format nowhere decimal (IsPositive most) (number_goes most) (positive_at most)
positive_format most wide =
    first_format decimal (IsPositive most) (number_goes most) (positive_at most) (positive_fits most) (number_of most) (positive_first most)
    (λ c cs h. positive_found most c cs wide h) (λ n rest fits ends. positive_first most (decimal n ++ rest)
    ∙ positive_again most n rest wide fits.0 fits.1 ends)
    (λ n c fits g. number_on most n c wide g)

-- ---- both signs

abbrev most_below : ℕ
most_below = 9223372036854775808

abbrev most_above : ℕ
most_above = 9223372036854775807

abbrev IsNegative : ℤ → Type 0
IsNegative z = Of minus (IsPositive most_below) z

abbrev IsNatural : ℤ → Type 0
IsNatural z = Of pos (λ n. n ≤ most_above) z

abbrev pub whole_goes : ℤ → ℕ → Bool
whole_goes (pos n) c = number_goes most_above n c
whole_goes (negsuc n) c = number_goes most_below (suc n) c

back : (n : ℕ) → 0 < n → suc (n - 1) ≡ n
back n h = omega (arith, h)

either_sign : (z : ℤ) → IsWhole z → IsNegative z ⊎ IsNatural z
either_sign (pos n) h = inr (n, omega (arith, h), refl)
either_sign (negsuc n) h = inl (suc n, (omega arith, omega (arith, h)), ap negsuc (let same : suc n - 1 ≡ n = omega arith in same))

sign_either : (z : ℤ) → IsNegative z ⊎ IsNatural z → IsWhole z
sign_either z (inl h) = rw (← h.2) (let small : h.0 - 1 < 2 ^ 63 = omega (arith, h.1.0, h.1.1) in small)
sign_either z (inr h) = rw (← h.2) (let small : h.0 < 2 ^ 63 = omega (arith, h.1) in small)

whole_nowhere : Format nowhere signed_decimal IsWhole whole_goes whole_at
whole_nowhere =
    fitting sign_either either_sign (either_by (λ c. eqb c 45)
    (led (45 ∷ []) minus (λ front rest low. absurd low) 1 (omega arith, omega arith) (positive_format most_below (omega arith))
    (λ n fits. ap (λ (k : ℕ). 45 ∷ decimal k) (back n fits.0)) (λ n c fits. ap (λ (k : ℕ). number_goes most_below k c) (back n fits.0)))
    (made pos (number_format nowhere most_above (omega arith)) (λ n fits. refl) (λ n c fits. refl))
    (record { none = refl; first = λ c cs h. rw h refl }) (byte_refuses 45 refl (λ cs. refl)))

pub whole_format : (IsLow : List ℕ → List ℕ → Type 0) → IsLocal IsLow → Format IsLow signed_decimal IsWhole whole_goes whole_at
whole_format IsLow moved = any_low IsLow whole_nowhere
