-- Bytes are read as they are spelled.
use Rattle.df_value_text.proofs.Names.{◌≡◌, ℕ, ◌+◌, ◌*◌, ◌/◌, ◌%◌, ◌<◌, Bool, true, false, cond, List, [], ◌∷◌, ◌++◌, Some, None, Ok, Err, refl, append_assoc, arith, codes, flat_map, nat_tests, Bad, Read, ◌>>=◌, decoded, one_at, CanGoOn, Format, never, same_read, nowhere, nowhere_is_local, enclosed, itself, passing, passing_format, chain_at, chain_format, Links, each_format, hex, hex_digit, is_hex, hex_byte, pairs_at, bytes_at, AreBytes, Each, two_at, hex_value}

abbrev pub pairs_text : List ℕ → List ℕ
pairs_text bytes = flat_map hex bytes

-- pairs go on with a digit
abbrev pub pairs_go : List ℕ → ℕ → Bool
pairs_go bytes c = is_hex c

-- ---- digits

value_small : (c : ℕ) → is_hex c ≡ true → hex_value c < 16
value_small c h = grind (arith, nat_tests)

digit_back : (c : ℕ) → is_hex c ≡ true → hex_digit (hex_value c) ≡ c
digit_back c h = grind (arith, nat_tests)

pub digit_is : (d : ℕ) → d < 16 → is_hex (hex_digit d) ≡ true
digit_is d lt = grind (arith, nat_tests)

pub digit_value : (d : ℕ) → d < 16 → hex_value (hex_digit d) ≡ d
digit_value d lt = grind (arith, nat_tests)

-- two digits are those of their byte
pub pair_back : (a b : ℕ) → is_hex a ≡ true → is_hex b ≡ true → hex (hex_byte a b) ≡ a ∷ b ∷ []
pair_back a b ha hb =
    let high : (16 * hex_value a + hex_value b) / 16 ≡ hex_value a = omega (arith, value_small a ha, value_small b hb) in
    let low : (16 * hex_value a + hex_value b) % 16 ≡ hex_value b = omega (arith, value_small a ha, value_small b hb) in
    rw (high, low, digit_back a ha, digit_back b hb) refl

pair_small : (a b : ℕ) → is_hex a ≡ true → is_hex b ≡ true → hex_byte a b < 256
pair_small a b ha hb = omega (arith, value_small a ha, value_small b hb)

-- the digits of a byte are its own
pub byte_back : (x : ℕ) → x < 256 → hex_byte (hex_digit (x / 16)) (hex_digit (x % 16)) ≡ x
byte_back x lt =
    let whole : 16 * (x / 16) + x % 16 ≡ x = omega arith in
    rw (digit_value (x / 16) (omega (arith, lt)), digit_value (x % 16) (omega arith)) whole

-- ---- one pair

-- the byte of this digit and the one that is read behind it
abbrev hexed : ℕ → ℕ × List ℕ → Read ℕ ℕ
hexed a y = Ok (hex_byte a y.0, y.1)

abbrev pub IsByte : ℕ → Type 0
IsByte b = b < 256

-- reading two digits is a chain
pub two_chain : (high : ℕ → Bool) (low : ℕ → ℕ → Bool) (bytes : List ℕ)
    → chain_at high (λ a. one_at (passing (low a))) hex_byte bytes ≡ two_at high low bytes
two_chain high low [] = refl
two_chain high low (a ∷ []) = refl
two_chain high low (a ∷ b ∷ cs) = by (low a b)
  where
    by : (z : Bool) → cond (high a) (decoded (cond z (Some b) None) b cs >>= hexed a) (Err (Bad (a ∷ b ∷ cs)))
        ≡ cond (high a) (cond z (Ok (hex_byte a b, cs)) (Err (Bad (b ∷ cs)))) (Err (Bad (a ∷ b ∷ cs)))
    by true = refl
    by false = refl

pub two_format : {high : ℕ → Bool} {low : ℕ → ℕ → Bool} {Fits : ℕ → Type 0}
    → Links high (λ a. one_at (passing (low a))) hex_byte itself (λ a b. low a b ≡ true) hex Fits → Format nowhere hex Fits never (two_at high low)
two_format {high} {low} {Fits} links =
    same_read (two_chain high low) (chain_format links)

pair_links : Links is_hex (λ a. one_at (passing is_hex)) hex_byte itself (λ a b. is_hex b ≡ true) hex IsByte
pair_links = record {
  item = λ a h. passing_format is_hex;
  some = λ a h. (48, refl);
  to = pair_small;
  from = λ x lt. (hex_digit (x / 16), hex_digit (x % 16), digit_is (x / 16) (omega (arith, lt)), digit_is (x % 16) (omega arith), byte_back x lt);
  spelled = pair_back;
}

digit_on : (c : ℕ) → is_hex c ≡ true → CanGoOn hex IsByte (c ∷ [])
digit_on c h = record { some = hex_byte c 48; fits = pair_small c 48 h refl; more = 48 ∷ []; is = pair_back c 48 h refl }

-- ---- pairs

pub pairs_each : Each is_hex hex IsByte (two_at is_hex (λ a. is_hex))
pairs_each = record {
  item = two_format pair_links;
  first = λ x lt. record { first = hex_digit (x / 16); others = hex_digit (x % 16) ∷ []; is = refl; test = digit_is (x / 16) (omega (arith, lt)) };
  some = digit_on;
}

pairs_format : Format nowhere pairs_text AreBytes pairs_go pairs_at
pairs_format = each_format pairs_each

-- ---- in quotes

abbrev pub bytes_text : List ℕ → List ℕ
bytes_text bytes = codes "x\"" ++ flat_map hex bytes ++ codes "\""

pub bytes_format : Format nowhere bytes_text AreBytes never bytes_at
bytes_format = enclosed nowhere_is_local (120 ∷ 34 ∷ []) 34 [] tt (λ bytes fits. refl) (λ bytes fits. simp append_assoc) pairs_format
