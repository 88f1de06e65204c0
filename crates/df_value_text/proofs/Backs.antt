-- A literal that is spelled is read back, where a word ends, and what stands behind it is left.
use Rattle.df_value_text.proofs.Names.{is_name_byte, ◌≡◌, ℕ, ◌<◌, ◌≤◌, ◌^◌, true, false, eqb, List, [], ◌∷◌, ◌++◌, Ok, decimal, refl, sym, ap, ◌∙◌, append_assoc, arith, is_ascii_digit, closed_at, Ends, ends_never, is_name, Plain, Label, Privilege, IsLabel, IsPrivilege, IsSpelled, IsTag, IsTagSet, label_text, path_text, privilege_text, tag_text, tags_text, number_at, label_at, privilege_at, name_at, numbers_at, short_at, tag_at, tags_at, value_text, EndsWord, value_at}
use Rattle.df_value_text.proofs.LabelLaws.{label_format, privilege_format, tags_end_at}
use Rattle.df_value_text.proofs.NameLaws.{name_apart, name_format, name_goes}
use Rattle.df_value_text.proofs.NumberLaws.{number_apart, number_format, number_goes}
use Rattle.df_value_text.proofs.TagLaws.{LongEnds, behind_byte, long_again, tag_ends_at, to_ends, nowhere, nowhere_is_local, tag_format, top}
use Rattle.df_value_text.proofs.TagSetLaws.{tags_format, tags_goes}
use Rattle.df_value_text.proofs.ValueLaws.{value_format, value_goes}
use Rattle.df_value_text.proofs.WordEnds.{at_break, ends_word, number_stops, privilege_stops, tag_stops, value_stops}

-- ---- words

pub number_back : (most n : ℕ) (rest : List ℕ) → most < 2 ^ 64 → n ≤ most → EndsWord rest → number_at most (decimal n ++ rest) ≡ Ok (n, rest)
number_back most n rest range small end = (number_format nowhere most range).again n rest small
    (ends_word (number_goes most) n rest (number_stops most n) end)

pub short_back : (n : ℕ) (rest : List ℕ) → n < 2 ^ 32 → EndsWord rest → short_at (decimal n ++ rest) ≡ Ok (n, rest)
short_back n rest small end = number_back top n rest (omega arith) (omega arith) end

pub tag_back : (tag rest : List ℕ) → IsTag tag → EndsWord rest → tag_at (tag_text tag ++ rest) ≡ Ok (tag, rest)
tag_back tag rest fits end = (tag_format nowhere nowhere_is_local).again tag rest fits (tag_stops tag rest end)

pub label_back : (label : Label) (rest : List ℕ) → IsLabel label → label_at (label_text label ++ rest) ≡ Ok (label, rest)
label_back label rest fits = label_format.again label rest fits (ends_never label rest)

pub privilege_back : (p : Privilege) (rest : List ℕ) → IsPrivilege p → EndsWord rest → privilege_at (privilege_text p ++ rest) ≡ Ok (p, rest)
privilege_back p rest fits end = privilege_format.again p rest fits (privilege_stops p rest end)

pub name_back : (name rest : List ℕ) → is_name name ≡ true → EndsWord rest → name_at (name ++ rest) ≡ Ok (name, rest)
name_back name rest fits end =
    (name_format nowhere).again name rest fits (ends_word name_goes name rest
    (λ c k. name_apart name c (at_break is_name_byte refl refl c k)) end)

-- ---- values

pub value_back : (p : Plain) (rest : List ℕ) → IsSpelled p → EndsWord rest → value_at (value_text p ++ rest) ≡ Ok (p, rest)
value_back p rest fits end = value_format.again p rest fits (ends_word value_goes p rest (value_stops p) end)

-- ---- parts of names

-- a byte that is no digit and no dot stands in front, or nothing
abbrev pub EndsPath : List ℕ → Type 0
EndsPath [] = Unit {0}
EndsPath (c ∷ rest) = (is_ascii_digit c ≡ false) × (eqb c 46 ≡ false)

path_ends : (path rest : List ℕ) → IsTag path → EndsPath rest → LongEnds path rest
path_ends [] rest fits end = absurd fits
path_ends (n ∷ ns) [] fits end = (to_ends n ns [] tt).0
path_ends (n ∷ ns) (c ∷ rest) fits end = (to_ends n ns (c ∷ rest) (tag_ends_at (n ∷ ns) c end.0 end.1)).0

pub path_back : (path rest : List ℕ) → IsTag path → EndsPath rest → numbers_at (path_text path ++ rest) ≡ Ok (path, rest)
path_back path rest fits end = sym (behind_byte 35 numbers_at (path_text path ++ rest)) ∙ long_again path rest fits (path_ends path rest fits end)

digits_end : (n : ℕ) (rest : List ℕ) → EndsPath rest → Ends (number_goes top) n rest
digits_end n [] end = tt
digits_end n (c ∷ rest) end = number_apart top n c end.0

-- a number before such a byte
pub digits_back : (n : ℕ) (rest : List ℕ) → n < 2 ^ 32 → EndsPath rest → short_at (decimal n ++ rest) ≡ Ok (n, rest)
digits_back n rest small end = (number_format nowhere top (omega arith)).again n rest (omega arith) (digits_end n rest end)

-- a set of tags before a bracket that closes
pub braced_back : (tags : List (List ℕ)) (rest : List ℕ) → IsTagSet tags → closed_at (125 ∷ []) tags_at ((tags_text tags ++ 125 ∷ []) ++ rest) ≡ Ok (tags, rest)
braced_back tags rest fits =
    let ends : tags_goes tags 125 ≡ false = tags_end_at tags 125 refl refl refl refl in
    ap (closed_at (125 ∷ []) tags_at) (append_assoc (tags_text tags) (125 ∷ []) rest) ∙ rw (tags_format.again tags (125 ∷ rest) fits ends) refl
