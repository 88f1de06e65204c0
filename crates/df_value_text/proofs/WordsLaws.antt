-- Words and their characters are read as they are spelled.
use Rattle.df_value_text.proofs.Names.{◌≡◌, ℕ, ◌/◌, ◌%◌, ◌<◌, Bool, true, false, cond, eqb, List, [], ◌∷◌, refl, arith, ◌⊎◌, inl, inr, nat_tests, one_at, Format, told, never, behind_format, nowhere, nowhere_is_local, told_as, either_of, itself, passing, passing_format, Links, hex, hex_digit, escaped, is_hex, hex_byte, is_quoted, is_control, is_plain, escape_at, ascii_at, zero, suc, ◌≤◌, nat_lt, ◌++◌, sym, ap, ◌∙◌, flat_map, scalar, low_scalar, append-nil, CanGoOn, Refuses, reads_begin, byte_refuses, either_by, wide_at, Bad, Err, Read, Of, made, is_lead, trail_length, least_second, most_second, char_at, begins_char, is_high, is_low, control_at, alone, Ok, append_assoc, IsUtf8, AllByRecursion, concat, scalars, encodes, and_parts, flat_map-append, viewed, enclosed, each_format, chars_at, words_at, Each, words_text}
use Rattle.df_value_text.proofs.BytesLaws.{pair_back, byte_back, two_format}
use Rattle.std.proofs.Math.Utf8.{encode}
use Rattle.std.proofs.lemmas.Str.{encode_ascii}
use Rattle.df_value_text.proofs.WideLaws.{IsWide, IsTrail, order, behind_some, between_is, wide_format, wide_char, char_wide}

-- ---- a control byte in two digits

abbrev pub IsControl : ℕ → Type 0
IsControl c = is_control c ≡ true

high_hex : (a : ℕ) → is_high a ≡ true → is_hex a ≡ true
high_hex a h = grind (arith, nat_tests)

low_hex : (a b : ℕ) → is_low a b ≡ true → is_hex b ≡ true
low_hex a b h = elim (told (eqb a 55)) [ inl e ↦ grind (arith, nat_tests) | inr e ↦ grind (arith, nat_tests) ]

pair_control : (a b : ℕ) → is_high a ≡ true → is_low a b ≡ true → IsControl (hex_byte a b)
pair_control a b ha hb = grind (arith, nat_tests)

high_is : (c : ℕ) → IsControl c → is_high (hex_digit (c / 16)) ≡ true
high_is c h = grind (arith, nat_tests)

low_is : (c : ℕ) → IsControl c → is_low (hex_digit (c / 16)) (hex_digit (c % 16)) ≡ true
low_is c h = grind (arith, nat_tests)

-- `f` may stand behind a `7`, and `0` behind any other first digit
some_low : (a : ℕ) → (b : ℕ) × (is_low a b ≡ true)
some_low a = elim (told (eqb a 55)) [ inl h ↦ (102, rw h refl) | inr h ↦ (48, rw h refl) ]

control_small : (c : ℕ) → IsControl c → c < 256
control_small c h = grind (arith, nat_tests)

control_links : Links is_high (λ a. one_at (passing (is_low a))) hex_byte itself (λ a b. is_low a b ≡ true) hex IsControl
control_links = record {
  item = λ a h. passing_format (is_low a);
  some = λ a h. some_low a;
  to = pair_control;
  from = λ c h. (hex_digit (c / 16), hex_digit (c % 16), high_is c h, low_is c h, byte_back c (control_small c h));
  spelled = λ a b ha hb. pair_back a b (high_hex a ha) (low_hex a b hb);
}

control_format : Format nowhere hex IsControl never control_at
control_format = two_format control_links

-- ---- what stands behind a `\`

abbrev pub IsQuoted : ℕ → Type 0
IsQuoted c = is_quoted c ≡ true

abbrev pub behind_slash : ℕ → List ℕ
behind_slash c = cond (is_quoted c) (c ∷ []) (hex c)

not_quoted : (c : ℕ) → IsControl c → is_quoted c ≡ false
not_quoted c h = grind (arith, nat_tests)

high_unquoted : (a : ℕ) → is_high a ≡ true → is_quoted a ≡ false
high_unquoted a h = grind (arith, nat_tests)

abbrev pub IsEscaped : ℕ → Type 0
IsEscaped c = IsQuoted c ⊎ IsControl c

escape_format : Format nowhere behind_slash IsEscaped never escape_at
escape_format =
    either_of is_quoted (told_as (λ c h. rw h refl) (λ c t h. refl) (passing_format is_quoted))
    (told_as (λ c h. rw (not_quoted c h) refl) (λ c t h. refl) control_format) (λ c h. record { first = c; others = []; is = rw h refl; test = h })
    (λ c h. record {
      first = hex_digit (c / 16);
      others = hex_digit (c % 16) ∷ [];
      is = rw (not_quoted c h) refl;
      test = high_unquoted (hex_digit (c / 16)) (high_is c h);
    })

-- ---- a byte of ASCII

abbrev pub IsPlain : ℕ → Type 0
IsPlain c = is_plain c ≡ true

pub escaped_is : (c : ℕ) → IsEscaped c → escaped c ≡ 92 ∷ behind_slash c
escaped_is c (inl h) = rw h refl
escaped_is c (inr h) = rw (not_quoted c h, h) refl

pub itself_is : (c : ℕ) → is_quoted c ≡ false → is_control c ≡ false → escaped c ≡ c ∷ []
itself_is c h k = rw (h, k) refl

pub plain_is : (c : ℕ) → IsPlain c → escaped c ≡ c ∷ []
plain_is c h = itself_is c (grind (arith, nat_tests)) (grind (arith, nat_tests))

pub ascii_format : Format nowhere escaped (λ c. IsEscaped c ⊎ IsPlain c) never ascii_at
ascii_format =
    either_by (λ c. eqb c 92)
    (told_as escaped_is (λ c t h. refl)
    (behind_format (92 ∷ []) (nowhere_is_local (92 ∷ [])) 34 (inl refl) escape_format))
    (told_as plain_is (λ c t h. refl) (passing_format is_plain)) (record { none = refl; first = λ c cs h. rw h refl }) (byte_refuses 92 refl (λ cs. refl))

-- the bytes of a text, each escaped
abbrev pub chars_text : List ℕ → List ℕ
chars_text text = flat_map escaped text

-- ---- a byte of ASCII

abbrev pub IsAscii : List ℕ → Type 0
IsAscii x = Of alone (λ c. IsEscaped c ⊎ IsPlain c) x

ascii_all : (c : ℕ) → c < 128 → IsEscaped c ⊎ IsPlain c
ascii_all c h = elim (told (is_quoted c)) [
  | inl e ↦ inl (inl e)
  | inr e ↦ elim (told (is_control c)) [ inl f ↦ inl (inr f) | inr f ↦ inr (grind (arith, nat_tests)) ]
]

pub ascii_small : (c : ℕ) → (IsEscaped c ⊎ IsPlain c) → c < 128
ascii_small c (inl (inl h)) = grind (arith, nat_tests)
ascii_small c (inl (inr h)) = grind (arith, nat_tests)
ascii_small c (inr h) = grind (arith, nat_tests)

-- ---- a character of several bytes

-- bytes that stand for themselves
abbrev AreHigh : List ℕ → Type 0
AreHigh [] = Unit {0}
AreHigh (b ∷ bs) = (128 ≤ b) × AreHigh bs

high_escaped : (b : ℕ) → 128 ≤ b → escaped b ≡ b ∷ []
high_escaped b l = itself_is b (grind (arith, nat_tests)) (grind (arith, nat_tests))

high_text : (x : List ℕ) → AreHigh x → chars_text x ≡ x
high_text [] h = refl
high_text (b ∷ bs) h = ap (λ (u : List ℕ). u ++ chars_text bs) (high_escaped b h.0) ∙ ap (λ (u : List ℕ). b ∷ u) (high_text bs h.1)

pub least_is : (lead : ℕ) → 128 ≤ least_second lead
least_is lead = grind (arith, nat_tests)

pub most_is : (lead : ℕ) → most_second lead ≤ 191
most_is lead = grind (arith, nat_tests)

trail_high : (n least most : ℕ) (x : List ℕ) → 128 ≤ least → IsTrail n least most x → AreHigh x
trail_high zero least most [] l t = tt
trail_high zero least most (b ∷ bs) l t = absurd cc
trail_high (suc n) least most [] l t = absurd t
trail_high (suc n) least most (b ∷ bs) l t = (omega (arith, l, (between_is least most b t.0).0), trail_high n 128 191 bs (omega arith) t.1)

wide_high : (x : List ℕ) → IsWide x → AreHigh x
wide_high [] fits = absurd fits
wide_high (lead ∷ bs) fits = (
  omega (arith, (between_is 194 244 lead fits.0).0),
  trail_high (trail_length lead) (least_second lead) (most_second lead) bs (least_is lead) fits.1,
)

wide_text : (x : List ℕ) → IsWide x → chars_text x ≡ x
wide_text x fits = high_text x (wide_high x fits)

-- ---- a character

abbrev pub IsChar : List ℕ → Type 0
IsChar x = IsAscii x ⊎ IsWide x

pub plain_begins : (c : ℕ) → is_plain c ≡ true → begins_char c ≡ true
plain_begins c h = grind (arith, nat_tests)

ascii_refuses : Refuses (λ c. nat_lt c 128) false ascii_at
ascii_refuses = record {
  none = refl;
  first = λ c cs h.
      let other : eqb c 92 ≡ false = grind (arith, nat_tests) in
      let plain : is_plain c ≡ false = grind (arith, nat_tests) in
      rw (plain, other) refl;
}

wide_refuses : Refuses (λ c. nat_lt c 128) true wide_at
wide_refuses = record { none = refl; first = λ c cs h. let lead : is_lead c ≡ false = grind (arith, nat_tests) in rw lead refl }

pub char_format : Format nowhere chars_text IsChar never char_at
char_format =
    either_by (λ c. nat_lt c 128) (made alone ascii_format (λ c h. append-nil (escaped c)) (λ c t h. refl))
    (told_as wide_text (λ x t h. refl) wide_format) (record { none = refl; first = λ c cs h. rw (ascii_refuses.first c cs h) refl }) wide_refuses

-- the first byte of a character begins one
char_refuses : Refuses begins_char false char_at
char_refuses = record {
  none = refl;
  first = λ c cs h.
      let other : eqb c 92 ≡ false = grind (arith, nat_tests) in
      let plain : is_plain c ≡ false = grind (arith, nat_tests) in
      let lead : is_lead c ≡ false = grind (arith, nat_tests) in
      rw (plain, other, lead) (same_either (nat_lt c 128) (Err (Bad (c ∷ cs))));
}
  where
    same_either : (b : Bool) (r : Read ℕ (List ℕ)) → cond b r r ≡ r
    same_either true r = refl
    same_either false r = refl

-- a byte that begins a character begins one
pub char_some : (t : ℕ) → begins_char t ≡ true → CanGoOn chars_text IsChar (t ∷ [])
char_some t h = by (eqb t 92) (is_plain t) refl refl
  where
    by : (s p : Bool) → eqb t 92 ≡ s → is_plain t ≡ p → CanGoOn chars_text IsChar (t ∷ [])
    by true p e f =
        let same : 92 ≡ t = grind (arith, nat_tests) in
        record { some = alone 34; fits = inl (34, inl (inl refl), refl); more = 34 ∷ []; is = ap (λ (n : ℕ). n ∷ 34 ∷ []) same }
    by false true e f = record { some = alone t; fits = inl (t, inr f, refl); more = []; is = ap (λ (u : List ℕ). u ++ []) (plain_is t f) }
    by false false e f =
        let lead : is_lead t ≡ true = grind (arith, nat_tests) in
        let y = behind_some t in
        record { some = t ∷ y.0; fits = inr (lead, y.1); more = y.0; is = wide_text (t ∷ y.0) (lead, y.1) }

-- ---- the scalar value that it is

-- a scalar value in UTF-8
abbrev pub IsEncoded : List ℕ → Type 0
IsEncoded x = (c : ℕ) × (scalar c ≡ true) × (encode c ≡ x)

pub char_encoded : (x : List ℕ) → IsChar x → IsEncoded x
char_encoded x (inl h) =
    let small : h.0 < 128 = ascii_small h.0 h.1 in
    (h.0, low_scalar h.0 (omega (arith, small)), encode_ascii h.0 small ∙ h.2)
char_encoded x (inr h) = let w = wide_char x h in (w.0, w.2, w.3)

pub encoded_char : (c : ℕ) → scalar c ≡ true → IsChar (encode c)
encoded_char c is = by (order c 128)
  where
    by : (c < 128) ⊎ (128 ≤ c) → IsChar (encode c)
    by (inl h) = inl (c, ascii_all c h, sym (encode_ascii c h))
    by (inr l) = inr (char_wide c is l)

-- characters go on with what begins another
abbrev chars_go : List ℕ → ℕ → Bool
chars_go text c = begins_char c

-- their bytes are spelled as they are, one behind the other
spelled_all : (xs : List (List ℕ)) → chars_text (concat xs) ≡ flat_map chars_text xs
spelled_all [] = refl
spelled_all (x ∷ xs) = flat_map-append escaped x (concat xs) ∙ ap (λ (u : List ℕ). chars_text x ++ u) (spelled_all xs)

-- and are UTF-8
all_utf8 : (xs : List (List ℕ)) → AllByRecursion IsChar xs → IsUtf8 (concat xs)
all_utf8 [] fits = ([], (refl, refl))
all_utf8 (x ∷ xs) fits =
    let one = char_encoded x fits.0 in
    let more = all_utf8 xs fits.1 in
    (one.0 ∷ more.0, (rw (one.1, more.1.0) refl, rw (one.2, more.1.1) refl))

-- of any scalar values
utf8_all : (cs : List ℕ) → scalars cs ≡ true → (xs : List (List ℕ)) × AllByRecursion IsChar xs × (concat xs ≡ encodes cs)
utf8_all [] h = ([], tt, refl)
utf8_all (c ∷ cs) h =
    let both = and_parts (scalar c) (scalars cs) h in
    let more = utf8_all cs both.1 in
    (encode c ∷ more.0, (encoded_char c both.0, more.1), ap (λ (u : List ℕ). encode c ++ u) more.2)

pub chars_each : Each begins_char chars_text IsChar char_at
chars_each = record { item = char_format; first = reads_begin char_format char_refuses; some = char_some }

chars_format : Format nowhere chars_text IsUtf8 chars_go chars_at
chars_format =
    viewed concat (each_format chars_each) (record {
      to = all_utf8;
      from = λ text u. let all = utf8_all u.0 u.1.0 in
          (all.0, all.1, all.2 ∙ u.1.1);
      spelled = λ xs fits. spelled_all xs;
      alike = λ xs c fits. refl;
    })

-- what is read is UTF-8
pub chars_utf8 : (bytes text rest : List ℕ) → chars_at bytes ≡ Ok (text, rest) → IsUtf8 text
chars_utf8 bytes text rest e = (chars_format.found bytes text rest e).fits

-- ---- in quotes

pub words_format : Format nowhere words_text IsUtf8 never words_at
words_format = enclosed nowhere_is_local (34 ∷ []) 34 [] ([], (refl, refl)) (λ text fits. refl) (λ text fits. simp append_assoc) chars_format
