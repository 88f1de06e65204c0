-- A number is read as it is spelled.
use Rattle.df_value_text.proofs.Names.{positive_at, not_both, ◌≡◌, ℕ, zero, suc, ◌+◌, ◌-◌, ◌*◌, ◌/◌, ◌%◌, ◌^◌, ◌<◌, ◌≤◌, Bool, true, false, cond, ◌&&◌, eqb, List, [], ◌∷◌, ◌++◌, Ok, Err, refl, sym, ap, subst, ◌∙◌, append_assoc, arith, inl, inr, nat_le, is_ascii_digit, decimal, eqb-true, nat_tests, append-nil, decimal_by_steps, Stop, Bad, CanGoOn, Ends, Found, Format, chosen, Refuses, any_low, first_at, first_stops, first_format, number_at, digits_at, decimal_digit, decimal_step}

-- c is a digit with which a number goes on from n
abbrev pub digit_fits : ℕ → ℕ → ℕ → Bool
digit_fits most n c = is_ascii_digit c && nat_le (10 * n + (c - 48)) most

abbrev pub number_goes : ℕ → ℕ → ℕ → Bool
number_goes most n c = cond (eqb n 0) false (digit_fits most n c)

pub digit_true : (most n c : ℕ) → digit_fits most n c ≡ true → (48 ≤ c) × (c ≤ 57) × (10 * n + (c - 48) ≤ most)
digit_true most n c h = (grind (arith, nat_tests), grind (arith, nat_tests), grind (arith, nat_tests))

-- a number goes on with digits alone
pub number_apart : (most n c : ℕ) → is_ascii_digit c ≡ false → number_goes most n c ≡ false
number_apart most n c h = rw h (elim (eqb n 0) as (λ b. cond b false false ≡ false) [ true ↦ refl | false ↦ refl ])

digit_is : (most n d : ℕ) → d < 10 → 10 * n + d ≤ most → digit_fits most n (48 + d) ≡ true
digit_is most n d lt le = grind (arith, nat_tests)

-- c is a digit with which a number begins
abbrev pub first_fits : ℕ → ℕ → Bool
first_fits most c = is_ascii_digit c && nat_le (c - 48) most

first_true : (most c : ℕ) → first_fits most c ≡ true → (48 ≤ c) × (c ≤ 57) × (c - 48 ≤ most)
first_true most c h = (grind (arith, nat_tests), grind (arith, nat_tests), grind (arith, nat_tests))

first_is : (most d : ℕ) → d < 10 → d ≤ most → first_fits most (48 + d) ≡ true
first_is most d lt le = grind (arith, nat_tests)

-- one more digit
pub decimal_push : (n c : ℕ) → 0 < n → 48 ≤ c → c ≤ 57 → 10 * n + (c - 48) < 2 ^ 64 → decimal (10 * n + (c - 48)) ≡ decimal n ++ c ∷ []
decimal_push n c pos lo hi small =
    let quotient : (10 * n + (c - 48)) / 10 ≡ n = omega arith in
    let digit : 48 + (10 * n + (c - 48)) % 10 ≡ c = omega arith in
    decimal_step (10 * n + (c - 48)) (omega arith) small ∙ rw (quotient, digit) refl

pub record DigitsRead (most n : ℕ) (bytes : List ℕ) (m : ℕ) (rest : List ℕ) : Type 0 where
  pub parts : decimal n ++ bytes ≡ decimal m ++ rest
  pub small : m ≤ most
  pub positive : 0 < m
  pub ends : Ends (number_goes most) m rest

digits_found : (most n : ℕ) (bytes : List ℕ) (m : ℕ) (rest : List ℕ) → most < 2 ^ 64 → 0 < n → n ≤ most → digits_at most n bytes ≡ (m, rest)
    → DigitsRead most n bytes m rest
digits_found most n [] m rest wide pos le e =
    subst (λ (q : ℕ × List ℕ). DigitsRead most n [] q.0 q.1) e (record { parts = refl; small = le; positive = pos; ends = tt })
digits_found most n (c ∷ cs) m rest wide pos le e =
    elim (chosen (digit_fits most n c) (digits_at most (10 * n + (c - 48)) cs) (n, c ∷ cs) (m, rest) e) [
      | inl h ↦
          let t = digit_true most n c h.0 in
          let r = digits_found most (10 * n + (c - 48)) cs m rest wide (omega arith) t.2 h.1 in
          record {
            parts = sym (append_assoc (decimal n) (c ∷ []) cs) ∙ ap (λ (x : List ℕ). x ++ cs) (sym (decimal_push n c pos t.0 t.1 (omega arith))) ∙ r.parts;
            small = r.small;
            positive = r.positive;
            ends = r.ends;
          }
      | inr h ↦
          let nonzero : eqb n 0 ≡ false = grind (arith, nat_tests) in
          subst (λ (q : ℕ × List ℕ). DigitsRead most n (c ∷ cs) q.0 q.1) h.1
          (record { parts = refl; small = le; positive = pos; ends = rw (nonzero, h.0) refl })
    ]

-- ---- the first byte decides

-- what is read behind it, which is `0` or not
abbrev pub behind_digit : Bool → ℕ → ℕ → List ℕ → ℕ × List ℕ
behind_digit z most c cs = cond z (0, cs) (digits_at most (c - 48) cs)

abbrev pub number_of : ℕ → ℕ → List ℕ → ℕ × List ℕ
number_of most c cs = behind_digit (eqb c 48) most c cs

pub number_first : (most : ℕ) (bytes : List ℕ) → first_at (first_fits most) (number_of most) bytes ≡ number_at most bytes
number_first most [] = refl
number_first most (c ∷ cs) =
    elim (eqb c 48) as (λ z. cond (first_fits most c) (Ok (cond z (0, cs) (digits_at most (c - 48) cs))) (Err (Bad (c ∷ cs)))
    ≡ cond (first_fits most c) (cond z (Ok (0, cs)) (Ok (digits_at most (c - 48) cs))) (Err (Bad (c ∷ cs))))
    [ true ↦ refl | false ↦ refl ]

zero_ends : (most : ℕ) (rest : List ℕ) → Ends (number_goes most) 0 rest
zero_ends most [] = tt
zero_ends most (c ∷ rest) = refl

-- a number that isn't 0 is read behind another first digit than `0`
pub number_read : (most c : ℕ) (cs : List ℕ) → most < 2 ^ 64 → first_fits most c ≡ true → eqb c 48 ≡ false
    → DigitsRead most (c - 48) cs (digits_at most (c - 48) cs).0 (digits_at most (c - 48) cs).1
number_read most c cs wide h k = digits_found most (c - 48) cs _ _ wide (grind (arith, nat_tests)) (first_true most c h).2 refl

pub number_found : (most c : ℕ) (cs : List ℕ) → most < 2 ^ 64 → first_fits most c ≡ true
    → Found decimal (λ n. n ≤ most) (number_goes most) (c ∷ cs) (number_of most c cs).0 (number_of most c cs).1
number_found most c cs wide h = by (eqb c 48) refl
  where
    by : (z : Bool) → eqb c 48 ≡ z → Found decimal (λ n. n ≤ most) (number_goes most) (c ∷ cs) (behind_digit z most c cs).0 (behind_digit z most c cs).1
    by true k = record {
      parts = ap (λ (v : ℕ). v ∷ cs) (eqb-true c 48 k) ∙ ap (λ (x : List ℕ). x ++ cs) (sym (decimal_digit 0 (omega arith)));
      fits = omega arith;
      ends = zero_ends most cs;
    }
    by false k =
        let t = first_true most c h in
        let r = number_read most c cs wide h k in
        let digit : 48 + (c - 48) ≡ c = omega arith in
        let here : decimal (c - 48) ≡ c ∷ [] = decimal_digit (c - 48) (omega arith) ∙ ap (λ (v : ℕ). v ∷ []) digit in
        record { parts = sym (ap (λ (x : List ℕ). x ++ cs) here) ∙ r.parts; fits = r.small; ends = r.ends }

-- digits read so far
abbrev ReadSo : ℕ → ℕ → List ℕ → Type 0
ReadSo most n ds = 0 < n → n ≤ most → (rest : List ℕ) → positive_at most (ds ++ rest) ≡ Ok (digits_at most n rest)

read_one : (most n : ℕ) → n < 10 → ReadSo most n ((48 + n) ∷ [])
read_one most n lt pos le rest =
    let is_not : eqb (48 + n) 48 ≡ false = grind (arith, nat_tests) in
    let same : (48 + n) - 48 ≡ n = omega arith in
    rw (is_not, first_is most n lt le, same) refl

read_more : (most n : ℕ) (ds : List ℕ) → 10 ≤ n → ReadSo most (n / 10) ds → ReadSo most n (ds ++ (48 + n % 10) ∷ [])
read_more most n ds ge so pos le rest =
    let whole : 10 * (n / 10) + n % 10 ≡ n = omega arith in
    let test : digit_fits most (n / 10) (48 + n % 10) ≡ true = digit_is most (n / 10) (n % 10) (omega arith) (omega arith) in
    let digit : (48 + n % 10) - 48 ≡ n % 10 = omega arith in
    let step : digits_at most (n / 10) ((48 + n % 10) ∷ rest) ≡ digits_at most n rest = rw (test, digit, whole) refl in
    ap (positive_at most) (append_assoc ds ((48 + n % 10) ∷ []) rest)
    ∙ so (omega arith) (omega arith) ((48 + n % 10) ∷ rest) ∙ ap (λ (q : ℕ × List ℕ). Ok q) step

digits_stop : (most n : ℕ) (rest : List ℕ) → 0 < n → Ends (number_goes most) n rest → digits_at most n rest ≡ (n, rest)
digits_stop most n [] pos h = refl
digits_stop most n (c ∷ rest) pos h =
    let nonzero : eqb n 0 ≡ false = grind (arith, nat_tests) in
    let test : digit_fits most n c ≡ false = sym (ap (λ b. cond b false (digit_fits most n c)) nonzero) ∙ h in
    rw test refl

pub positive_again : (most n : ℕ) (rest : List ℕ) → most < 2 ^ 64 → 0 < n → n ≤ most → Ends (number_goes most) n rest
    → positive_at most (decimal n ++ rest) ≡ Ok (n, rest)
positive_again most n rest wide pos le h =
    decimal_by_steps (ReadSo most) (read_one most) (read_more most) n (omega arith) pos le rest
    ∙ ap (λ (q : ℕ × List ℕ). Ok q) (digits_stop most n rest pos h)

positive_number : (most : ℕ) (bytes : List ℕ) (x : ℕ × List ℕ) → positive_at most bytes ≡ Ok x → number_at most bytes ≡ Ok x
positive_number most [] x e = absurd cc
positive_number most (c ∷ cs) x e = elim (chosen (eqb c 48) (Err (Bad (c ∷ cs))) (number_at most (c ∷ cs)) (Ok x) e) [
  | inl h ↦ not_both x (Bad (c ∷ cs)) (sym h.1)
  | inr h ↦ h.1
]

number_again : (most n : ℕ) (rest : List ℕ) → most < 2 ^ 64 → n ≤ most → Ends (number_goes most) n rest → number_at most (decimal n ++ rest) ≡ Ok (n, rest)
number_again most zero rest wide le h =
    ap (λ (x : List ℕ). number_at most (x ++ rest)) (decimal_digit 0 (omega arith)) ∙ rw (first_is most 0 (omega arith) (omega arith)) refl
number_again most (suc n) rest wide le h =
    positive_number most (decimal (suc n) ++ rest) (suc n, rest) (positive_again most (suc n) rest wide (omega arith) le h)

-- one more digit is a longer number
pub number_on : (most n c : ℕ) → most < 2 ^ 64 → number_goes most n c ≡ true → CanGoOn decimal (λ n. (0 < n) × (n ≤ most)) (decimal n ++ c ∷ [])
number_on most n c wide g =
    let pos : 0 < n = grind (arith, nat_tests) in
    let fits : digit_fits most n c ≡ true = grind (arith, nat_tests) in
    let t = digit_true most n c fits in
    record {
      some = 10 * n + (c - 48);
      fits = (omega (arith, pos), t.2);
      more = [];
      is = decimal_push n c pos t.0 t.1 (omega arith) ∙ sym (append-nil (decimal n ++ c ∷ []));
    }

pub number_format : (IsLow : List ℕ → List ℕ → Type 0) (most : ℕ) → most < 2 ^ 64 → Format IsLow decimal (λ n. n ≤ most) (number_goes most) (number_at most)
number_format IsLow most wide =
    any_low IsLow (first_format decimal (λ n. n ≤ most) (number_goes most) (number_at most) (first_fits most) (number_of most) (number_first most)
    (λ c cs h. number_found most c cs wide h) (λ n rest fits ends. number_first most (decimal n ++ rest) ∙ number_again most n rest wide fits ends)
    (λ n c fits g. let v = number_on most n c wide g in record { some = v.some; fits = v.fits.1; more = v.more; is = v.is }))

-- a number stops at its first byte
pub number_stops : (most : ℕ) (bytes : List ℕ) (stop : Stop ℕ) → number_at most bytes ≡ Err stop → stop ≡ Bad bytes
number_stops most bytes stop e = first_stops (first_fits most) (number_of most) bytes stop (number_first most bytes ∙ e)

-- a number begins with a digit
pub digit_refuses : (most : ℕ) → Refuses is_ascii_digit false (number_at most)
digit_refuses most = record { none = refl; first = λ c cs h. rw h refl }
