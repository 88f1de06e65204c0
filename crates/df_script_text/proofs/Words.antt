-- Words: each of their bytes is above a space.
use Rattle.df_script_text.proofs.Names.{◌≡◌, ℕ, ◌<◌, ◌^◌, Bool, true, nat_lt, List, [], ◌∷◌, ◌++◌, map, codes, decimal, ℤ, pos, negsuc, suc, refl, arith, list_all, AllByRecursion, join_with_byte, signed_decimal, nat_tests, list_all-append, is_name, is_name_byte, is_letter, UnitName, Root, Managed, AreNumbers, AreTags, IsLabel, IsPrivilege, IsTag, IsTagSet, label_text, path_text, privilege_text, right_text, tag_text, tags_text, IsWhole, act_text, half_text, unit_text, IsUnit, braced}
use Rattle.std.specs.Str.{all_ascii_digits}
use Rattle.std.specs.Char.{is_ascii_digit}
use Rattle.std.specs.Str.Parse.{digits_value}
use Rattle.std.proofs.lemmas.Fmt.{digits_decimal}
use Rattle.std.proofs.lemmas.Str.Parse.{IsNumeralModel, numerals_by_value, tells_all_ascii_digits}
use Rattle.std.proofs.lemmas.Bool.{and_parts}
use Rattle.df_label.specs.declared.label.Label.{Label}
use Rattle.df_label.specs.declared.privilege.Privilege.{Privilege}
use Rattle.df_label.specs.declared.privilege.Right.{Right}
use Rattle.df_label.specs.declared.privilege.Right.TheVariants.{Plus}
use Rattle.df_priv.specs.declared.need.Half.{Half}
use Rattle.df_priv.specs.declared.need.Half.TheVariants.{S, I}
use Rattle.df_priv.specs.declared.need.Act.{Act}
use Rattle.df_priv.specs.declared.need.Act.TheVariants.{Add, Del}

-- whether each byte is above a space
abbrev pub is_word : List ℕ → Bool
is_word text = list_all (λ b. nat_lt 32 b) text

-- these are words
abbrev pub AreWords : List (List ℕ) → Type 0
AreWords ws = AllByRecursion (λ w. is_word w ≡ true) ws

-- what passes this test passes that one
pub each_passes : (p q : ℕ → Bool) → ((b : ℕ) → p b ≡ true → q b ≡ true) → (bs : List ℕ) → list_all p bs ≡ true → list_all q bs ≡ true
each_passes p q f [] h = refl
each_passes p q f (b ∷ bs) h = let t = and_parts (p b) (list_all p bs) h in rw (f b t.0, each_passes p q f bs t.1) refl

digit_above : (d : ℕ) → is_ascii_digit d ≡ true → nat_lt 32 d ≡ true
digit_above d h = grind (arith, nat_tests)

letter_above : (b : ℕ) → is_letter b ≡ true → nat_lt 32 b ≡ true
letter_above b h = grind (arith, nat_tests)

-- digits are a word
is_word-digits : (ds : List ℕ) → all_ascii_digits ds ≡ true → is_word ds ≡ true
is_word-digits ds h = each_passes is_ascii_digit (λ b. nat_lt 32 b) digit_above ds h

-- digits and their value, as std reads them
digits_model : IsNumeralModel (λ ds. all_ascii_digits ds ≡ true) (digits_value 10)
digits_model = numerals_by_value _ tells_all_ascii_digits

-- a number is a word
pub is_word-decimal : (n : ℕ) → n < 2 ^ 64 → is_word (decimal n) ≡ true
is_word-decimal n h = is_word-digits (decimal n) (digits_decimal digits_model n h)

-- a whole number is a word
pub is_word-signed : (z : ℤ) → IsWhole z → is_word (signed_decimal z) ≡ true
is_word-signed (pos n) h = is_word-decimal n (omega (arith, h))
is_word-signed (negsuc n) h = is_word-decimal (suc n) (omega (arith, h))

-- a name is a word
pub is_word-name : (bs : List ℕ) → is_name bs ≡ true → is_word bs ≡ true
is_word-name [] h = refl
is_word-name (b ∷ bs) h =
    let p = and_parts (is_letter b) _ h in
    let q = and_parts _ (list_all is_name_byte bs) p.1 in
    rw (letter_above b p.0, each_passes is_name_byte (λ b. nat_lt 32 b) (λ b h. grind (arith, nat_tests)) bs q.1) refl

-- two words in a row are a word
pub is_word-append : (xs ys : List ℕ) → is_word xs ≡ true → is_word ys ≡ true → is_word (xs ++ ys) ≡ true
is_word-append xs ys h t = rw (list_all-append (λ b. nat_lt 32 b) xs ys, h, t) refl

-- a number of 32 bits is a word
pub number_word : (n : ℕ) → n < 2 ^ 32 → is_word (decimal n) ≡ true
number_word n h = is_word-decimal n (omega (arith, h))

-- words with such a byte between each two are a word
is_word-joined : (sep : ℕ) (ws : List (List ℕ)) → nat_lt 32 sep ≡ true → AreWords ws → is_word (join_with_byte sep ws) ≡ true
is_word-joined sep [] h t = refl
is_word-joined sep (w ∷ []) h t = t.0
is_word-joined sep (w ∷ v ∷ vs) h t = is_word-append w (sep ∷ join_with_byte sep (v ∷ vs)) t.0 (rw (h, is_word-joined sep (v ∷ vs) h t.1) refl)

-- numbers of 32 bits are words
AreWords-numbers : (ns : List ℕ) → AreNumbers ns → AreWords (map decimal ns)
AreWords-numbers [] h = tt
AreWords-numbers (n ∷ ns) h = (number_word n h.0, AreWords-numbers ns h.1)

-- a path is a word
is_word-path : (path : List ℕ) → IsTag path → is_word (path_text path) ≡ true
is_word-path [] h = absurd h
is_word-path (n ∷ ns) h = is_word-joined 46 (map decimal (n ∷ ns)) refl (AreWords-numbers (n ∷ ns) h)

-- a tag is a word
pub is_word-tag : (tag : List ℕ) → IsTag tag → is_word (tag_text tag) ≡ true
is_word-tag tag h = is_word-path tag h

-- tags are words
AreWords-tags : (tags : List (List ℕ)) → AreTags tags → AreWords (map tag_text tags)
AreWords-tags [] h = tt
AreWords-tags (tag ∷ tags) h = (is_word-tag tag h.0, AreWords-tags tags h.1)

-- a set of tags is a word
is_word-tags : (tags : List (List ℕ)) → IsTagSet tags → is_word (tags_text tags) ≡ true
is_word-tags tags h = is_word-joined 44 (map tag_text tags) refl (AreWords-tags tags h.0)

-- a label is a word
pub is_word-label : (l : Label) → IsLabel l → is_word (label_text l) ≡ true
is_word-label l h = simp (list_all-append, is_word-tags l.s h.0, is_word-tags l.i h.1)

-- a right is a word
is_word-right : (right : Right) → is_word (right_text right) ≡ true
is_word-right Plus = refl
is_word-right _ = refl

-- a privilege is a word
pub is_word-privilege : (p : Privilege) → IsPrivilege p → is_word (privilege_text p) ≡ true
is_word-privilege p h = is_word-append (tag_text p.tag) (right_text p.right) (is_word-tag p.tag h) (is_word-right p.right)

-- privileges are words
pub AreWords-privileges : (ps : List Privilege) → AllByRecursion IsPrivilege ps → AreWords (map privilege_text ps)
AreWords-privileges [] h = tt
AreWords-privileges (p ∷ ps) h = (is_word-privilege p h.0, AreWords-privileges ps h.1)

-- a half of a label is a word
pub is_word-half : (half : Half) → is_word (half_text half) ≡ true
is_word-half S = refl
is_word-half I = refl

-- what is done with a tag is a word
pub is_word-act : (act : Act) → is_word (act_text act) ≡ true
is_word-act Add = refl
is_word-act Del = refl

-- tags in braces are a word
pub is_word-braced : (tags : List (List ℕ)) → IsTagSet tags → is_word (braced tags) ≡ true
is_word-braced tags h = is_word-append (123 ∷ tags_text tags) (codes "}") (is_word-tags tags h) refl

-- who makes a call is a word
pub is_word-actor : (u : UnitName) → IsUnit u → is_word (unit_text u) ≡ true
is_word-actor (Root path) h = is_word-path path h
is_word-actor (Managed owner sub s) h = simp (list_all-append, is_word-path owner h.0, number_word sub h.1, is_word-tags s h.2)
