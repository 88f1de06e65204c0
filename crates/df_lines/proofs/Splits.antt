-- Lines and the text that they make, split at its line feeds.
use Rattle.std.proofs.Common.{◌≡◌, ℕ, ◌+◌, ◌<◌, List, [], ◌∷◌, ◌++◌, length, take, refl, sym, ap, ◌∙◌, arith, append_assoc, append-nil, length-append, ◌⊎◌, inl, inr}
use lib.Dec.{eqb}
use Rattle.std.specs.List.{All, slice_split}
use Rattle.std.proofs.lemmas.List.Elements.{All-head, All-tail}
use Rattle.std.proofs.lemmas.List.Splits.{slice_split_none, slice_split_at, length-slice_split}
use Rattle.df_lines.specs.Lines.{EndsLine, IsLine, ended, lines_text}
use Rattle.df_lines.specs.code.Faults.{line_number}

-- what stands before, between and behind the line feeds
abbrev pub pieces : List ℕ → List (List ℕ)
pieces text = slice_split (λ b. eqb b 10) text

-- lines in front of a text
pub pieces-lines : (ls : List (List ℕ)) (rest : List ℕ) → All IsLine ls → pieces (lines_text ls ++ rest) ≡ ls ++ pieces rest
pieces-lines [] rest h = refl
pieces-lines (l ∷ ls) rest h =
    ap pieces (append_assoc (ended l) (lines_text ls) rest ∙ append_assoc l (10 ∷ []) (lines_text ls ++ rest))
    ∙ slice_split_at (λ b. eqb b 10) l 10 (lines_text ls ++ rest) (All-head IsLine l ls h) refl
    ∙ ap (λ (m : List (List ℕ)). l ∷ m) (pieces-lines ls rest (All-tail IsLine l ls h))

-- the pieces behind a line
abbrev pub others : List ℕ → List (List ℕ)
others [] = []
others (b ∷ bs) = pieces bs

pub pieces-line : (line behind : List ℕ) → IsLine line → EndsLine behind → pieces (line ++ behind) ≡ line ∷ others behind
pieces-line line [] h end = ap pieces (append-nil line) ∙ slice_split_none (λ b. eqb b 10) line h
pieces-line line (b ∷ bs) h end = ap (λ (c : ℕ). pieces (line ++ c ∷ bs)) end ∙ slice_split_at (λ b. eqb b 10) line 10 bs h refl

-- the number of the line that begins at a place
pub number-line : (text : List ℕ) (place : ℕ) (before : List (List ℕ)) → take place text ≡ lines_text before → All IsLine before
    → line_number text place ≡ length before + 1
number-line text place before is lines =
    sym (length-slice_split (λ b. eqb b 10) (take place text))
    ∙ ap length (ap pieces (is ∙ sym (append-nil (lines_text before))) ∙ pieces-lines before [] lines) ∙ length-append before ([] ∷ [])

-- two lists of lines that go on alike: they and the next lines are the same, or one goes on with the other's next
pub either_front : (xs ys : List (List ℕ)) (a b : List ℕ) (us vs : List (List ℕ)) → xs ++ a ∷ us ≡ ys ++ b ∷ vs
    → ((xs ≡ ys) × (a ≡ b)) ⊎ (((rest : List (List ℕ)) × (ys ≡ xs ++ a ∷ rest) × (0 < length us)) ⊎ ((rest : List (List ℕ)) × (xs ≡ ys ++ b ∷ rest) × (0 < length vs)))
either_front [] [] a b us vs e = inl (refl, cc)
either_front [] (c ∷ ys) a b us vs e =
    let head : a ≡ c = cc in
    let tail : us ≡ ys ++ b ∷ vs = cc in
    inr (inl (ys, ap (λ (l : List ℕ). l ∷ ys) (sym head), omega (arith, ap length tail, length-append ys (b ∷ vs))))
either_front (c ∷ xs) [] a b us vs e =
    let head : c ≡ b = cc in
    let tail : xs ++ a ∷ us ≡ vs = cc in
    inr (inr (xs, ap (λ (l : List ℕ). l ∷ xs) head, omega (arith, ap length tail, length-append xs (a ∷ us))))
either_front (c ∷ xs) (d ∷ ys) a b us vs e =
    let head : c ≡ d = cc in
    let tail : xs ++ a ∷ us ≡ ys ++ b ∷ vs = cc in
    elim (either_front xs ys a b us vs tail) [
      | inl s ↦ inl (ap (λ (l : List ℕ). l ∷ xs) head ∙ ap (λ (l : List (List ℕ)). d ∷ l) s.0, s.1)
      | inr s ↦
          elim s [
            | inl r ↦ inr (inl (r.0, ap (λ (l : List ℕ). l ∷ ys) (sym head) ∙ ap (λ (l : List (List ℕ)). c ∷ l) r.1, r.2))
            | inr r ↦ inr (inr (r.0, ap (λ (l : List ℕ). l ∷ xs) head ∙ ap (λ (l : List (List ℕ)). d ∷ l) r.1, r.2))
          ]
    ]
