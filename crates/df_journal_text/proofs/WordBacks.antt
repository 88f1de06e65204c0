-- Words and lines that are spelled are read back.
use Rattle.df_journal_text.proofs.Names.{◌≡◌, ℕ, ◌<◌, ◌^◌, true, false, List, [], ◌∷◌, ◌++◌, map, Ok, decimal, refl, ap, ◌∙◌, append_assoc, arith, inl, AllByRecursion, flat_map, Read, Back, all_back, is_name, IsAscending, privilege_cmp, Privilege, IsLabel, IsPrivilege, IsTag, IsTagSet, IsValue, label_text, privilege_text, tag_text, tags_text, label_at, privilege_at, name_at, short_at, tag_at, value_at, value_text, EndsWord, short_back, number_back, tag_back, label_back, privilege_back, name_back, value_back, braced_back, filter_text, IsFilter, filter_at, word, spaced, line, braced_at, long_at, word_at, line_at, begins_pair, each_privilege_at, privileges_at}
use Rattle.df_filter_text.proofs.Backs.{filter_back}
use Rattle.df_journal_text.proofs.Words.{ascend_of}

-- what is spelled is read back, where a word ends
pub record Word {X : Type 0} (spell : X → List ℕ) (Fits : X → Type 0) (read : List ℕ → Read ℕ X) : Type 0 where
  pub back : (x : X) (rest : List ℕ) → Fits x → EndsWord rest → read (spell x ++ rest) ≡ Ok (x, rest)

pub short_word : Word decimal (λ n. n < 2 ^ 32) short_at
short_word = record { back = short_back }

pub long_word : Word decimal (λ n. n < 2 ^ 64) long_at
long_word = record { back = λ n rest small end. number_back 18446744073709551615 n rest (omega arith) (omega arith) end }

pub tag_word : Word tag_text IsTag tag_at
tag_word = record { back = tag_back }

pub label_word : Word label_text IsLabel label_at
label_word = record { back = λ label rest fits end. label_back label rest fits }

pub privilege_word : Word privilege_text IsPrivilege privilege_at
privilege_word = record { back = privilege_back }

pub name_word : Word (λ name. name) (λ name. is_name name ≡ true) name_at
name_word = record { back = name_back }

pub value_word : Word value_text IsValue value_at
value_word = record { back = λ p rest fits end. value_back p rest fits.0 end }

pub filter_word : Word filter_text IsFilter filter_at
filter_word = record { back = filter_back }

-- tags in braces
abbrev pub braced : List (List ℕ) → List ℕ
braced tags = (123 ∷ tags_text tags) ++ 125 ∷ []

pub braced_word : Word braced IsTagSet braced_at
braced_word = record { back = λ tags rest fits end. braced_back tags rest fits }

-- ---- a word among others

-- what stands behind a word ends it
pub ends_spaced : (words : List (List ℕ)) (rest : List ℕ) → EndsWord rest → EndsWord (spaced words ++ rest)
ends_spaced [] rest end = end
ends_spaced (w ∷ ws) rest end = inl refl

pub word_back : {X : Type 0} {spell : X → List ℕ} {Fits : X → Type 0} {read : List ℕ
    → Read ℕ X} (w : Word spell Fits read) (x : X) (words : List (List ℕ)) (rest : List ℕ) → Fits x → EndsWord rest
    → word_at read (spaced (spell x ∷ words) ++ rest) ≡ Ok (x, spaced words ++ rest)
word_back {X} {spell} {Fits} {read} w x words rest fits end = ap read (append_assoc (spell x) (spaced words) rest)
    ∙ w.back x (spaced words ++ rest) fits (ends_spaced words rest end)

-- ---- privileges

abbrev pub privilege_words : Privilege → List ℕ
privilege_words p = word (privilege_text p)

privileges_are : Back (begins_pair 32 35) privilege_words IsPrivilege EndsWord (word_at privilege_at)
privileges_are = record {
  back = λ p rest fits end. privilege_back p rest fits end;
  stand = λ p rest fits. refl;
  some = λ p fits. omega arith;
  next = λ p rest fits. inl refl;
}

pub spaced-privileges : (ps : List Privilege) → spaced (map privilege_text ps) ≡ flat_map privilege_words ps
spaced-privileges [] = refl
spaced-privileges (p ∷ ps) = ap (λ (u : List ℕ). privilege_words p ++ u) (spaced-privileges ps)

pub privileges_back : (ps : List Privilege) (rest : List ℕ) → AllByRecursion IsPrivilege ps → IsAscending privilege_cmp ps → EndsWord rest
    → begins_pair 32 35 rest ≡ false → privileges_at (spaced (map privilege_text ps) ++ rest) ≡ Ok (ps, rest)
privileges_back ps rest fits above end last =
    let each : each_privilege_at (spaced (map privilege_text ps) ++ rest) ≡ Ok (ps, rest) = ap (λ (u : List ℕ). each_privilege_at (u ++ rest))
    (spaced-privileges ps) ∙ all_back privileges_are ps rest fits end last in
    rw (each, ascend_of ps above) refl

-- ---- lines

-- the words of a line, and its line feed
pub line-rest : (first : List ℕ) (words : List (List ℕ)) (rest : List ℕ) → line first words ++ rest ≡ first ++ (spaced words ++ 10 ∷ rest)
line-rest first words rest = simp append_assoc

pub line_back : {X : Type 0} (read : List ℕ → Read ℕ X) (bytes : List ℕ) (x : X) (rest : List ℕ) → read bytes ≡ Ok (x, 10 ∷ rest)
    → line_at read bytes ≡ Ok (x, rest)
line_back read bytes x rest e = rw e refl
