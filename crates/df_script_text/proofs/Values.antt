-- Values and filters: they have no line feed.
use Rattle.df_script_text.proofs.Names.{◌≡◌, ℕ, ◌+◌, ◌/◌, ◌%◌, true, false, cond, ◌||◌, nat_lt, nat_eq, List, [], ◌∷◌, ◌++◌, map, ℤ, refl, arith, inl, inr, flat_map, join_with_byte, signed_decimal, nat_tests, list_all-append, told, is_name, AreBehind, AreEntries, AreSpelled, IsSpelled, IsValue, IsWhole}
use Rattle.df_frozen.specs.Plain.{Plain, Plains, Pairs, int, words, bytes, items, entries, no_items, item, no_entries, entry}
use Rattle.df_filter.specs.declared.clause.Clause.{Clause}
use Rattle.df_filter.specs.declared.clause.Test.{Test}
use Rattle.df_filter.specs.declared.field_test.FieldTest.{FieldTest}
use Rattle.df_value_text.specs.Value.{entries_text, escaped, hex, hex_digit, items_text, value_text, words_text}
use Rattle.df_filter_text.specs.FieldTest.{field_test_text}
use Rattle.df_filter_text.specs.Filter.{clause_text, filter_text, test_text}
use Rattle.df_filter_text.specs.Fits.{AreClauses, IsClause, IsFieldTest, IsFilter, IsTest}
use Rattle.df_filter.specs.declared.clause.Test.TheVariants as test
use Rattle.df_filter.specs.declared.field_test.FieldTest.TheVariants as field
use Rattle.df_script_text.proofs.Splits.{Avoids, Avoids-text, is_line, is_line-word}
use Rattle.df_script_text.proofs.Words.{is_word-name, is_word-signed}
pub use Rattle.df_script_text.proofs.Splits.{IsLine-word}

-- ---- bytes

hex_digit_line : (d : ℕ) → nat_lt 31 (hex_digit d) ≡ true
hex_digit_line d =
    elim (nat_lt d 10) as (λ r. nat_lt 31 (cond r (48 + d) (87 + d)) ≡ true) [ true ↦ grind (arith, nat_tests) | false ↦ grind (arith, nat_tests) ]

hex_line : (b : ℕ) → is_line (hex b) ≡ true
hex_line b = rw (hex_digit_line (b / 16), hex_digit_line (b % 16)) refl

quoted : (b : ℕ) → (nat_eq b 34 || nat_eq b 92) ≡ true → nat_lt 31 b ≡ true
quoted b h = grind (arith, nat_tests)

kept : (b : ℕ) → (nat_lt b 32 || nat_eq b 127) ≡ false → nat_lt 31 b ≡ true
kept b h = grind (arith, nat_tests)

escaped_line : (b : ℕ) → is_line (escaped b) ≡ true
escaped_line b = elim (told (nat_eq b 34 || nat_eq b 92)) [
  | inl q ↦ rw (q, quoted b q) refl
  | inr n ↦ elim (told (nat_lt b 32 || nat_eq b 127)) [ inl h ↦ rw (n, h) (hex_line b) | inr k ↦ rw (n, k, kept b k) refl ]
]

each_line : (f : ℕ → List ℕ) → ((b : ℕ) → is_line (f b) ≡ true) → (bs : List ℕ) → is_line (flat_map f bs) ≡ true
each_line f each [] = refl
each_line f each (b ∷ bs) = simp (list_all-append, each b, each_line f each bs)

line_both : (a b : List ℕ) → is_line a ≡ true → is_line b ≡ true → is_line (a ++ b) ≡ true
line_both a b h k = rw (list_all-append (λ b. nat_lt 31 b) a b, h, k) refl

-- ---- values

words_line : (text : List ℕ) → is_line (words_text text) ≡ true
words_line text = simp (list_all-append, each_line escaped escaped_line text)

number_line : (n : ℤ) → IsWhole n → is_line (signed_decimal n) ≡ true
number_line n h = is_line-word (signed_decimal n) (is_word-signed n h)

name_line : (name : List ℕ) → is_name name ≡ true → is_line name ≡ true
name_line name h = is_line-word name (is_word-name name h)

mutual
  plain_line : (p : Plain) → IsSpelled p → is_line (value_text p) ≡ true
  plain_line (int n) h = number_line n h
  plain_line (words s) h = words_line s
  plain_line (bytes s) h = simp (list_all-append, each_line hex hex_line s)
  plain_line (items ps) h = simp (list_all-append, items_line ps h)
  plain_line (entries es) h = simp (list_all-append, entries_line es h)

  items_line : (ps : Plains) → AreSpelled ps → is_line (items_text ps) ≡ true
  items_line no_items h = refl
  items_line (item p no_items) h = plain_line p h.0
  items_line (item p (item q ps)) h = simp (list_all-append, plain_line p h.0, items_line (item q ps) h.1)

  entries_line : (es : Pairs) → AreEntries es → is_line (entries_text es) ≡ true
  entries_line no_entries h = refl
  entries_line (entry name p no_entries) h = simp (list_all-append, name_line name h.0, plain_line p h.1)
  entries_line (entry name p (entry next q es)) h = simp (list_all-append, name_line name h.0, plain_line p h.1, behind_line name (entry next q es) h.2)

  behind_line : (prev : List ℕ) (es : Pairs) → AreBehind prev es → is_line (entries_text es) ≡ true
  behind_line prev no_entries h = refl
  behind_line prev (entry name p no_entries) h = simp (list_all-append, name_line name h.0, plain_line p h.2)
  behind_line prev (entry name p (entry next q es)) h = simp (list_all-append, name_line name h.0, plain_line p h.2, behind_line name (entry next q es) h.3)

-- a value that is read
pub IsLine-value : (p : Plain) → IsValue p → Avoids 10 (value_text p)
IsLine-value p h = Avoids-text (value_text p) (plain_line p h.0)

-- ---- filters

field_line : (t : FieldTest) → IsFieldTest t → is_line (field_test_text t) ≡ true
field_line (field.IntEq n) h = number_line n h
field_line _ h = search (line_both, number_line, words_line, h)

test_line : (t : Test) → IsTest t → is_line (test_text t) ≡ true
test_line test.Present h = refl
test_line _ h = search (line_both, number_line, words_line, name_line, field_line, h)

clause_line : (c : Clause) → IsClause c → is_line (clause_text c) ≡ true
clause_line c h = simp (list_all-append, name_line c.name h.0, test_line c.test h.1)

clauses_line : (cs : List Clause) → AreClauses cs → is_line (join_with_byte 38 (map clause_text cs)) ≡ true
clauses_line [] h = refl
clauses_line (c ∷ []) h = clause_line c h.0
clauses_line (c ∷ d ∷ cs) h = simp (list_all-append, name_line c.name h.0.0, test_line c.test h.0.1, clauses_line (d ∷ cs) h.1)

pub IsLine-filter : (cs : List Clause) → IsFilter cs → Avoids 10 (filter_text cs)
IsLine-filter cs h = Avoids-text (filter_text cs) (clauses_line cs h.0)
