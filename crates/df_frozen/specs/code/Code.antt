-- Plain content as a list of marks in postfix order, which gives it back.
use Rattle.std.specs.Prelude.{◌≡◌, ℕ, ℤ, pos, List, [], ◌∷◌, cond, ◌==◌, refl}
use Rattle.std.proofs.Common.{◌∙◌, ap}
use Rattle.std.specs.Coded.{Coded, code_by, coded×, coded_list, coded_ℕ, coded_ℤ}
use Rattle.df_frozen.specs.Plain.{Plain, Plains, Pairs, int, words, bytes, items, entries, no_items, item, no_entries, entry}

-- a mark: which it is, with a number or a text
abbrev Mark : Type 0
Mark = ℕ × (ℤ × List ℕ)

-- a mark without number and text
abbrev bare : ℕ → Mark
bare k = (k, (pos 0, []))

abbrev mutual
  marks : Plain → List Mark → List Mark
  marks (int n) rest = (0, (n, [])) ∷ rest
  marks (words s) rest = (1, (pos 0, s)) ∷ rest
  marks (bytes s) rest = (2, (pos 0, s)) ∷ rest
  marks (items ps) rest = marks_items ps (bare 3 ∷ rest)
  marks (entries es) rest = marks_entries es (bare 4 ∷ rest)

  marks_items : Plains → List Mark → List Mark
  marks_items no_items rest = bare 5 ∷ rest
  marks_items (item p ps) rest = marks p (marks_items ps (bare 6 ∷ rest))

  marks_entries : Pairs → List Mark → List Mark
  marks_entries no_entries rest = bare 7 ∷ rest
  marks_entries (entry k p es) rest = marks p (marks_entries es ((8, (pos 0, k)) ∷ rest))

-- what has been read and is not yet a part of anything
record Piles : Type 0 where
  plain : List Plain
  some : List Plains
  pairs : List Pairs

-- items are whole
abbrev close_items : List Plains → Piles → Piles
close_items [] p = p
close_items (ps ∷ more) p = record p { plain = items ps ∷ p.plain; some = more }

-- entries are whole
abbrev close_entries : List Pairs → Piles → Piles
close_entries [] p = p
close_entries (es ∷ more) p = record p { plain = entries es ∷ p.plain; pairs = more }

-- an item is put before the items on their pile
abbrev join_item : List Plain → List Plains → Piles → Piles
join_item [] _ p = p
join_item (a ∷ plain) [] p = p
join_item (a ∷ plain) (ps ∷ some) p = record p { plain = plain; some = item a ps ∷ some }

-- an entry is put before the entries on their pile
abbrev join_entry : List ℕ → List Plain → List Pairs → Piles → Piles
join_entry k [] _ p = p
join_entry k (a ∷ plain) [] p = p
join_entry k (a ∷ plain) (es ∷ pairs) p = record p { plain = plain; pairs = entry k a es ∷ pairs }

-- one mark is read
abbrev take_mark : Mark → Piles → Piles
take_mark m p =
    cond (m.0 == 0) (record p { plain = int m.1.0 ∷ p.plain })
    (cond (m.0 == 1) (record p { plain = words m.1.1 ∷ p.plain })
    (cond (m.0 == 2) (record p { plain = bytes m.1.1 ∷ p.plain })
    (cond (m.0 == 3) (close_items p.some p)
    (cond (m.0 == 4) (close_entries p.pairs p)
    (cond (m.0 == 5) (record p { some = no_items ∷ p.some })
    (cond (m.0 == 6) (join_item p.plain p.some p)
    (cond (m.0 == 7) (record p { pairs = no_entries ∷ p.pairs })
    (join_entry m.1.1 p.plain p.pairs p))))))))

-- marks are read
abbrev take_marks : List Mark → Piles → Piles
take_marks [] p = p
take_marks (m ∷ ms) p = take_marks ms (take_mark m p)

-- what lies on top of a pile
abbrev top : List Plain → Plain
top [] = int (pos 0)
top (a ∷ _) = a

-- the content that the marks stand for
abbrev from_marks : List Mark → Plain
from_marks ms = top (take_marks ms (record { plain = []; some = []; pairs = [] })).plain

-- one more content on its pile
abbrev with_plain : Plain → Piles → Piles
with_plain a p = record p { plain = a ∷ p.plain }

-- more items on their pile
abbrev with_items : Plains → Piles → Piles
with_items ps p = record p { some = ps ∷ p.some }

-- more entries on their pile
abbrev with_entries : Pairs → Piles → Piles
with_entries es p = record p { pairs = es ∷ p.pairs }

mutual
  taken : (a : Plain) (rest : List Mark) (p : Piles) →
      take_marks (marks a rest) p ≡ take_marks rest (with_plain a p)
  taken (int n) rest p = refl
  taken (words s) rest p = refl
  taken (bytes s) rest p = refl
  taken (items ps) rest p = taken_items ps (bare 3 ∷ rest) p
  taken (entries es) rest p = taken_entries es (bare 4 ∷ rest) p

  taken_items : (ps : Plains) (rest : List Mark) (p : Piles) →
      take_marks (marks_items ps rest) p ≡ take_marks rest (with_items ps p)
  taken_items no_items rest p = refl
  taken_items (item a ps) rest p =
      taken a (marks_items ps (bare 6 ∷ rest)) p ∙ taken_items ps (bare 6 ∷ rest) (with_plain a p)

  taken_entries : (es : Pairs) (rest : List Mark) (p : Piles) →
      take_marks (marks_entries es rest) p ≡ take_marks rest (with_entries es p)
  taken_entries no_entries rest p = refl
  taken_entries (entry k a es) rest p =
      taken a (marks_entries es ((8, (pos 0, k)) ∷ rest)) p
      ∙ taken_entries es ((8, (pos 0, k)) ∷ rest) (with_plain a p)

-- the marks that stand for the content
abbrev to_marks : Plain → List Mark
to_marks a = marks a []

-- marks give the content back
pub from_marks-to_marks : (a : Plain) → from_marks (to_marks a) ≡ a
from_marks-to_marks a =
    ap (λ (p : Piles). top p.plain) (taken a [] (record { plain = []; some = []; pairs = [] }))

-- plain content is stored as its marks
abbrev pub plain_code : Coded Plain
plain_code =
    code_by (List Mark) (coded_list (coded× coded_ℕ (coded× coded_ℤ (coded_list coded_ℕ))))
    to_marks from_marks from_marks-to_marks
