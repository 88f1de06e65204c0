-- Characters of several bytes are read as they stand.
use Rattle.df_value_text.proofs.Names.{◌≡◌, ℕ, zero, suc, ◌+◌, ◌-◌, ◌*◌, ◌/◌, ◌<◌, ◌≤◌, Bool, true, false, nat_lt, List, [], ◌∷◌, refl, sym, subst, ◌∙◌, arith, ◌⊎◌, inl, inr, nat_tests, scalar, low_scalar, Read, Format, never, told, same_read, own, text_format, nowhere, chain_at, chain_format, Links, is_between, is_lead, trail_length, least_second, most_second, trail_at, wide_at, led_at}
use Rattle.std.proofs.Math.Utf8.{next, encode, scalar_cases}

-- ---- a byte that passes a test, and what stands behind it

abbrev pub LedFits : (ℕ → Bool) → (ℕ → List ℕ → Type 0) → List ℕ → Type 0
LedFits test Fits [] = ⊥
LedFits test Fits (b ∷ bs) = (test b ≡ true) × Fits b bs

abbrev put : ℕ → List ℕ → List ℕ
put b bs = b ∷ bs

led_chain : (test : ℕ → Bool) (next : ℕ → List ℕ → Read ℕ (List ℕ)) (bytes : List ℕ) → chain_at test next put bytes ≡ led_at test next bytes
led_chain test next [] = refl
led_chain test next (b ∷ bs) = refl

led_from : (test : ℕ → Bool) (Fits : ℕ → List ℕ → Type 0) (x : List ℕ) → LedFits test Fits x
    → (c : ℕ) × (y : List ℕ) × (test c ≡ true) × Fits c y × (put c y ≡ x)
led_from test Fits [] h = absurd h
led_from test Fits (b ∷ bs) h = (b, bs, h.0, h.1, refl)

led_format : (test : ℕ → Bool) (Fits : ℕ → List ℕ → Type 0) (next : ℕ → List ℕ → Read ℕ (List ℕ))
    → ((b : ℕ) → test b ≡ true → Format nowhere own (Fits b) never (next b))
    → ((b : ℕ) → test b ≡ true → (x : List ℕ) × Fits b x) → Format nowhere own (LedFits test Fits) never (led_at test next)
led_format test Fits next formats some =
    same_read (led_chain test next) (chain_format links)
  where
    links : Links test next put own Fits own (LedFits test Fits)
    links = record { item = formats; some = some; to = λ b bs h fits. (h, fits); from = led_from test Fits; spelled = λ b bs h fits. refl }

-- ---- the bytes behind the first

abbrev pub IsTrail : ℕ → ℕ → ℕ → List ℕ → Type 0
IsTrail zero least most x = x ≡ []
IsTrail (suc n) least most x = LedFits (is_between least most) (λ b. IsTrail n 128 191) x

between : (least most b : ℕ) → least ≤ b → b ≤ most → is_between least most b ≡ true
between least most b l h = grind (arith, nat_tests)

pub between_is : (least most b : ℕ) → is_between least most b ≡ true → (least ≤ b) × (b ≤ most)
between_is least most b h = (grind (arith, nat_tests), grind (arith, nat_tests))

pub trail_some : (n least most : ℕ) → least ≤ most → (x : List ℕ) × IsTrail n least most x
trail_some zero least most le = ([], refl)
trail_some (suc n) least most le =
    let more = trail_some n 128 191 (omega arith) in
    (least ∷ more.0, (between least most least (omega arith) le, more.1))

trail_format : (n least most : ℕ) → Format nowhere own (IsTrail n least most) never (trail_at n least most)
trail_format zero least most = text_format nowhere []
trail_format (suc n) least most =
    led_format (is_between least most) (λ b. IsTrail n 128 191) (λ b. trail_at n 128 191) (λ b h. trail_format n 128 191)
    (λ b h. trail_some n 128 191 (omega arith))

-- ---- characters

-- what a first byte asks for
abbrev pub IsBehind : ℕ → List ℕ → Type 0
IsBehind lead bs = IsTrail (trail_length lead) (least_second lead) (most_second lead) bs

-- a first byte and as many behind it as it asks for
abbrev pub IsWide : List ℕ → Type 0
IsWide x = LedFits is_lead IsBehind x

some_second : (lead : ℕ) → least_second lead ≤ most_second lead
some_second lead = grind (arith, nat_tests)

pub behind_some : (lead : ℕ) → (x : List ℕ) × IsBehind lead x
behind_some lead = trail_some (trail_length lead) (least_second lead) (most_second lead) (some_second lead)

pub wide_format : Format nowhere own IsWide never wide_at
wide_format =
    led_format is_lead IsBehind (λ lead. trail_at (trail_length lead) (least_second lead) (most_second lead))
    (λ lead h. trail_format (trail_length lead) (least_second lead) (most_second lead)) (λ lead h. behind_some lead)

-- ---- the characters that they are

pub order : (m n : ℕ) → (m < n) ⊎ (n ≤ m)
order m n = elim (told (nat_lt m n)) [ inl e ↦ inl (grind (arith, nat_tests)) | inr e ↦ inr (grind (arith, nat_tests)) ]

pub below : (m n : ℕ) → m < n → nat_lt m n ≡ true
below m n h = grind (arith, nat_tests)

pub not_below : (m n : ℕ) → n ≤ m → nat_lt m n ≡ false
not_below m n h = grind (arith, nat_tests)

two : (c : ℕ) → 128 ≤ c → c < 2048 → encode c ≡ (192 + c / 64) ∷ next c ∷ []
unfolding encode
two c l h = rw (not_below c 128 l, below c 2048 h) refl

three : (c : ℕ) → 2048 ≤ c → c < 65536 → encode c ≡ (224 + c / 4096) ∷ next (c / 64) ∷ next c ∷ []
unfolding encode
three c l h = rw (not_below c 128 (omega (arith, l)), not_below c 2048 l, below c 65536 h) refl

four : (c : ℕ) → 65536 ≤ c → encode c ≡ (240 + c / 262144) ∷ next (c / 4096) ∷ next (c / 64) ∷ next c ∷ []
unfolding encode
four c l = rw (not_below c 128 (omega (arith, l)), not_below c 2048 (omega (arith, l)), not_below c 65536 l) refl

-- a character of several bytes
abbrev pub IsOfMany : List ℕ → Type 0
IsOfMany x = (c : ℕ) × (128 ≤ c) × (scalar c ≡ true) × (encode c ≡ x)

-- a second byte that the first one asks for
abbrev IsSecond : ℕ → ℕ → Type 0
IsSecond lead b = is_between (least_second lead) (most_second lead) b ≡ true

second_range : (lead b : ℕ) → IsSecond lead b → (128 ≤ b) × (b ≤ 191)
second_range lead b h = (grind (arith, nat_tests), grind (arith, nat_tests))

second_of_two : (c : ℕ) → 128 ≤ c → c < 2048 → IsSecond (192 + c / 64) (next c)
second_of_two c l h = grind (arith, nat_tests)

second_of_three : (c : ℕ) → 2048 ≤ c → c < 65536 → (c < 55296) ⊎ (57344 ≤ c) → IsSecond (224 + c / 4096) (next (c / 64))
second_of_three c l h (inl k) = grind (arith, nat_tests)
second_of_three c l h (inr k) = grind (arith, nat_tests)

second_of_four : (c : ℕ) → 65536 ≤ c → c < 1114112 → IsSecond (240 + c / 262144) (next (c / 4096))
second_of_four c l h = grind (arith, nat_tests)

further : (bits : ℕ) → is_between 128 191 (next bits) ≡ true
further bits = between 128 191 (next bits) (omega arith) (omega arith)

length_one : (lead : ℕ) → lead < 224 → trail_length lead ≡ 1
length_one lead h = grind (arith, nat_tests)

length_two : (lead : ℕ) → 224 ≤ lead → lead < 240 → trail_length lead ≡ 2
length_two lead l h = grind (arith, nat_tests)

length_three : (lead : ℕ) → 240 ≤ lead → trail_length lead ≡ 3
length_three lead l = grind (arith, nat_tests)

trail_as : (n m lead : ℕ) (bs : List ℕ) → n ≡ m → IsTrail n (least_second lead) (most_second lead) bs → IsTrail m (least_second lead) (most_second lead) bs
trail_as n m lead bs e t = subst (λ (k : ℕ). IsTrail k (least_second lead) (most_second lead) bs) e t

-- as many bytes as this first one asks for
wide_of : (n lead : ℕ) (bs : List ℕ) → 194 ≤ lead → lead ≤ 244 → trail_length lead ≡ n → IsTrail n (least_second lead) (most_second lead) bs
    → IsWide (lead ∷ bs)
wide_of n lead bs l h e t = (between 194 244 lead l h, trail_as n (trail_length lead) lead bs (sym e) t)

pub char_wide : (c : ℕ) → scalar c ≡ true → 128 ≤ c → IsWide (encode c)
char_wide c is l = by (order c 2048) (order c 65536) (scalar_cases c is)
  where
    by : (c < 2048) ⊎ (2048 ≤ c) → (c < 65536) ⊎ (65536 ≤ c) → (c < 55296) ⊎ ((57344 ≤ c) × (c < 1114112)) → IsWide (encode c)
    by (inl h) _ cases =
        subst IsWide (sym (two c l h)) (wide_of 1 (192 + c / 64) (next c ∷ []) (omega (arith, l)) (omega (arith, h))
        (length_one (192 + c / 64) (omega (arith, h))) (second_of_two c l h, refl))
    by (inr m) (inl h) cases =
        let gap : (c < 55296) ⊎ (57344 ≤ c) = elim cases [ inl k ↦ inl k | inr k ↦ inr k.0 ] in
        subst IsWide (sym (three c m h)) (wide_of 2 (224 + c / 4096) (next (c / 64) ∷ next c ∷ []) (omega arith) (omega (arith, h))
        (length_two (224 + c / 4096) (omega arith) (omega (arith, h))) (second_of_three c m h gap, (further c, refl)))
    by (inr _) (inr m) cases =
        let top : c < 1114112 = elim cases [ inl k ↦ omega (arith, k) | inr k ↦ k.1 ] in
        subst IsWide (sym (four c m)) (wide_of 3 (240 + c / 262144) (next (c / 4096) ∷ next (c / 64) ∷ next c ∷ []) (omega arith) (omega (arith, top))
        (length_three (240 + c / 262144) (omega arith)) (second_of_four c m top, (further (c / 64), (further c, refl))))

-- no code from 55296 to 57343 is a character
scalar_by : (c : ℕ) → (55296 ≤ c → 57344 ≤ c) → c < 1114112 → scalar c ≡ true
scalar_by c gap top = elim (order c 55296) [ inl h ↦ low_scalar c h | inr l ↦ let above : 57344 ≤ c = gap l in grind (arith, nat_tests) ]

two_char : (a b : ℕ) → 194 ≤ a → a < 224 → IsSecond a b → IsOfMany (a ∷ b ∷ [])
two_char a b la ha s =
    let r = second_range a b s in
    let c : ℕ = (a - 192) * 64 + (b - 128) in
    let first : 192 + c / 64 ≡ a = omega (arith, la, ha, r.0, r.1) in
    let second : next c ≡ b = omega (arith, la, ha, r.0, r.1) in
    (c, omega (arith, la), low_scalar c (omega (arith, ha, r.1)), two c (omega (arith, la)) (omega (arith, ha, r.1)) ∙ rw (first, second) refl)

three_big : (a b d : ℕ) → 224 ≤ a → a < 240 → IsSecond a b → 128 ≤ d → d ≤ 191 → 2048 ≤ (a - 224) * 4096 + (b - 128) * 64 + (d - 128)
three_big a b d la ha s ld hd = grind (arith, nat_tests)

three_gap : (a b d : ℕ) → 224 ≤ a → a < 240 → IsSecond a b → 128 ≤ d → d ≤ 191 → 55296 ≤ (a - 224) * 4096 + (b - 128) * 64 + (d - 128)
    → 57344 ≤ (a - 224) * 4096 + (b - 128) * 64 + (d - 128)
three_gap a b d la ha s ld hd ge = grind (arith, nat_tests)

three_char : (a b d : ℕ) → 224 ≤ a → a < 240 → IsSecond a b → 128 ≤ d → d ≤ 191 → IsOfMany (a ∷ b ∷ d ∷ [])
three_char a b d la ha s ld hd =
    let r = second_range a b s in
    let c : ℕ = (a - 224) * 4096 + (b - 128) * 64 + (d - 128) in
    let first : 224 + c / 4096 ≡ a = omega (arith, la, ha, r.0, r.1, ld, hd) in
    let second : next (c / 64) ≡ b = omega (arith, la, ha, r.0, r.1, ld, hd) in
    let third : next c ≡ d = omega (arith, la, ha, r.0, r.1, ld, hd) in
    let big : 2048 ≤ c = three_big a b d la ha s ld hd in
    let is : scalar c ≡ true = scalar_by c (three_gap a b d la ha s ld hd) (omega (arith, ha, r.1, hd)) in
    (c, omega (arith, big), is, three c big (omega (arith, ha, r.1, hd)) ∙ rw (first, second, third) refl)

four_second : (a b : ℕ) → 240 ≤ a → a ≤ 244 → IsSecond a b → (a < 241 → 144 ≤ b) × (244 ≤ a → b ≤ 143)
four_second a b la ha s = (λ h. grind (arith, nat_tests), λ h. grind (arith, nat_tests))

four_char : (a b d e : ℕ) → 240 ≤ a → a ≤ 244 → IsSecond a b → 128 ≤ d → d ≤ 191 → 128 ≤ e → e ≤ 191 → IsOfMany (a ∷ b ∷ d ∷ e ∷ [])
four_char a b d e la ha s ld hd le he =
    let r = second_range a b s in
    let f = four_second a b la ha s in
    let c : ℕ = (a - 240) * 262144 + (b - 128) * 4096 + (d - 128) * 64 + (e - 128) in
    let first : 240 + c / 262144 ≡ a = omega (arith, la, ha, r.0, r.1, ld, hd, le, he) in
    let second : next (c / 4096) ≡ b = omega (arith, la, ha, r.0, r.1, ld, hd, le, he) in
    let third : next (c / 64) ≡ d = omega (arith, la, ha, r.0, r.1, ld, hd, le, he) in
    let fourth : next c ≡ e = omega (arith, la, ha, r.0, r.1, ld, hd, le, he) in
    let big : 65536 ≤ c = elim (order a 241) [ inl h ↦ let up = f.0 h in omega (arith, up) | inr l ↦ omega (arith, l) ] in
    let top : c < 1114112 = elim (order a 244) [ inl h ↦ omega (arith, h, r.1, hd, he) | inr l ↦ let up = f.1 l in omega (arith, ha, up, hd, he) ] in
    (c, omega (arith, big), scalar_by c (λ ge. omega (arith, big)) top, four c big ∙ rw (first, second, third, fourth) refl)

pub wide_char : (x : List ℕ) → IsWide x → IsOfMany x
wide_char [] fits = absurd fits
wide_char (a ∷ bs) fits =
    let range = between_is 194 244 a fits.0 in
    elim (order a 224) [
      | inl h ↦ behind_one bs range.0 h (trail_as (trail_length a) 1 a bs (length_one a h) fits.1)
      | inr l ↦ elim (order a 240) [
        | inl h ↦ behind_two bs l h (trail_as (trail_length a) 2 a bs (length_two a l h) fits.1)
        | inr m ↦ behind_three bs m range.1 (trail_as (trail_length a) 3 a bs (length_three a m) fits.1)
      ]
    ]
  where
    behind_one : (bs : List ℕ) → 194 ≤ a → a < 224 → IsTrail 1 (least_second a) (most_second a) bs → IsOfMany (a ∷ bs)
    behind_one [] l h t = absurd t
    behind_one (b ∷ bs) l h t = subst (λ (u : List ℕ). IsOfMany (a ∷ b ∷ u)) (sym t.1) (two_char a b l h t.0)

    behind_two : (bs : List ℕ) → 224 ≤ a → a < 240 → IsTrail 2 (least_second a) (most_second a) bs → IsOfMany (a ∷ bs)
    behind_two [] l h t = absurd t
    behind_two (b ∷ []) l h t = absurd t.1
    behind_two (b ∷ d ∷ bs) l h t =
        let r = between_is 128 191 d t.1.0 in
        subst (λ (u : List ℕ). IsOfMany (a ∷ b ∷ d ∷ u)) (sym t.1.1) (three_char a b d l h t.0 r.0 r.1)

    behind_three : (bs : List ℕ) → 240 ≤ a → a ≤ 244 → IsTrail 3 (least_second a) (most_second a) bs → IsOfMany (a ∷ bs)
    behind_three [] l h t = absurd t
    behind_three (b ∷ []) l h t = absurd t.1
    behind_three (b ∷ d ∷ []) l h t = absurd t.1.1
    behind_three (b ∷ d ∷ e ∷ bs) l h t =
        let r = between_is 128 191 d t.1.0 in
        let v = between_is 128 191 e t.1.1.0 in
        subst (λ (u : List ℕ). IsOfMany (a ∷ b ∷ d ∷ e ∷ u)) (sym t.1.1.1) (four_char a b d e l h t.0 r.0 r.1 v.0 v.1)
