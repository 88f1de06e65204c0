-- The lines of a start, by the rows of what may be held.
use Rattle.df_lint.proofs.Names.{◌≡◌, ℕ, suc, ◌+◌, ◌<◌, ◌≤◌, List, [], ◌∷◌, ◌++◌, Bool, true, false, sym, ◌∙◌, ap, append_assoc, get_or, length, take, arith, flat_map, never, names, IsLeast, IsAscending, tag_cmp, Privilege, IsLintText, lint_line, lint_lines, tag_lines, append-nil, take_all, take_more, Right, Plus, Minus, PlusAuth, MinusAuth, cell_at, has, row_of, Cell, AreTagsOf, found, row_at, Roots}
use Rattle.df_family.specs.Never.{NeverHolds}
use Rattle.df_label.specs.Privileges.{contains as contains_privilege}
use Rattle.df_lint.proofs.Cells.{contains_at}

-- where the rows don't have a privilege, no unit of the family ever holds it
never_told : (start : Roots) (rows : List (List Privilege)) → IsLeast start (found rows) → (k : ℕ) (p : Privilege) → names start p.tag ≡ true → found rows k p ≡ false → NeverHolds start k p
never_told start rows least k p named missing = never start k p named (λ may. let z : true ≡ false = sym (may (found rows) least.closed) ∙ missing in absurd (let y : ⊥ = cc in y))

-- the lines of one more root
pub rows_more : (rows : List (List Privilege)) (tags : List (List ℕ)) (k : ℕ) (row : List Privilege) (first before now : List ℕ) → row ≡ row_at rows k →
    before ≡ first ++ lint_lines (found rows) tags k → now ≡ before ++ flat_map (tag_lines k (contains_privilege row)) tags → now ≡ first ++ lint_lines (found rows) tags (k + 1)
rows_more rows tags k row first before now at had more =
    let next : suc k ≡ k + 1 = omega arith in
    more ∙ ap (λ (r : List Privilege). before ++ flat_map (tag_lines k (contains_privilege r)) tags) at
    ∙ ap (λ (b : List ℕ). b ++ flat_map (tag_lines k (found rows k)) tags) had
    ∙ append_assoc first (lint_lines (found rows) tags k) (flat_map (tag_lines k (found rows k)) tags)
    ∙ ap (λ (n : ℕ). first ++ lint_lines (found rows) tags n) next

flat_push : (f : List ℕ → List ℕ) (xs : List (List ℕ)) (y : List ℕ) → flat_map f (xs ++ y ∷ []) ≡ flat_map f xs ++ f y
flat_push f [] y = append-nil (f y)
flat_push f (x ∷ xs) y = ap (λ (rest : List ℕ). f x ++ rest) (flat_push f xs y) ∙ sym (append_assoc (f x) (flat_map f xs) (f y))

same_lines : (root : ℕ) (t : List ℕ) (f g : Privilege → Bool) → ((r : Right) → f (record { tag = t; right = r }) ≡ g (record { tag = t; right = r })) → tag_lines root f t ≡ tag_lines root g t
same_lines root t f g h =
    let line : Right → Bool → List ℕ = λ r b. lint_line root (record { tag = t; right = r }) b in
    let was : Right → List ℕ = λ r. line r (f (record { tag = t; right = r })) in
    let is : Right → List ℕ = λ r. line r (g (record { tag = t; right = r })) in
    ap (λ (b : Bool). line Plus b ++ (was Minus ++ (was PlusAuth ++ (was MinusAuth ++ [])))) (h Plus)
    ∙ ap (λ (b : Bool). is Plus ++ (line Minus b ++ (was PlusAuth ++ (was MinusAuth ++ [])))) (h Minus)
    ∙ ap (λ (b : Bool). is Plus ++ (is Minus ++ (line PlusAuth b ++ (was MinusAuth ++ [])))) (h PlusAuth)
    ∙ ap (λ (b : Bool). is Plus ++ (is Minus ++ (is PlusAuth ++ (line MinusAuth b ++ [])))) (h MinusAuth)

pub four_lines : (first a b c d one two three four : List ℕ) → one ≡ first ++ a → two ≡ one ++ b → three ≡ two ++ c → four ≡ three ++ d → four ≡ first ++ (a ++ (b ++ (c ++ (d ++ []))))
four_lines first a b c d one two three four h1 h2 h3 h4 =
    h4 ∙ ap (λ (x : List ℕ). x ++ d) (h3 ∙ ap (λ (x : List ℕ). x ++ c) (h2 ∙ ap (λ (x : List ℕ). x ++ b) h1))
    ∙ append_assoc ((first ++ a) ++ b) c d ∙ append_assoc (first ++ a) b (c ++ d) ∙ append_assoc first a (b ++ (c ++ d))
    ∙ ap (λ (x : List ℕ). first ++ (a ++ (b ++ (c ++ x)))) (sym (append-nil d))

-- the lines of one more tag
pub tags_more : (root : ℕ) (tags : List (List ℕ)) (cells : List Cell) (k : ℕ) (t : List ℕ) (first before now : List ℕ) → IsAscending tag_cmp tags → length cells ≡ length tags → k < length tags → t ≡ get_or tags k t →
    before ≡ first ++ flat_map (tag_lines root (contains_privilege (row_of tags cells))) (take k tags) → now ≡ before ++ tag_lines root (λ p. has (cell_at cells k) p.right) t →
    now ≡ first ++ flat_map (tag_lines root (contains_privilege (row_of tags cells))) (take (k + 1) tags)
tags_more root tags cells k t first before now s many lt at had more =
    let f : List ℕ → List ℕ = λ u. tag_lines root (contains_privilege (row_of tags cells)) u in
    let one : tag_lines root (λ p. has (cell_at cells k) p.right) (get_or tags k t) ≡ f (get_or tags k t) =
    same_lines root (get_or tags k t) (λ p. has (cell_at cells k) p.right) (contains_privilege (row_of tags cells)) (λ r. sym (contains_at tags s cells k r t many lt)) in
    more ∙ ap (λ (b : List ℕ). b ++ tag_lines root (λ p. has (cell_at cells k) p.right) t) had
    ∙ ap (λ (u : List ℕ). (first ++ flat_map f (take k tags)) ++ tag_lines root (λ p. has (cell_at cells k) p.right) u) at
    ∙ ap (λ (l : List ℕ). (first ++ flat_map f (take k tags)) ++ l) one
    ∙ append_assoc first (flat_map f (take k tags)) (f (get_or tags k t))
    ∙ ap (λ (l : List ℕ). first ++ l) (sym (flat_push f (take k tags) (get_or tags k t)) ∙ ap (flat_map f) (sym (take_more tags k t lt)))

pub tags_all : (f : List ℕ → List ℕ) (tags : List (List ℕ)) (k : ℕ) (first now : List ℕ) → length tags ≤ k → now ≡ first ++ flat_map f (take k tags) → now ≡ first ++ flat_map f tags
tags_all f tags k first now le e = e ∙ ap (λ (ts : List (List ℕ)). first ++ flat_map f ts) (take_all k tags le)

pub text_of_rows : (start : Roots) (tags : List (List ℕ)) (rows : List (List Privilege)) (text : List ℕ) → AreTagsOf start tags → IsAscending tag_cmp tags → IsLeast start (found rows) → length rows ≡ length start → text ≡ lint_lines (found rows) tags (length rows) → IsLintText start text
text_of_rows start tags rows text are ascending least many lines = record {
  may = found rows;
  tags = tags;
  least = least;
  tags_are = are;
  ascending = ascending;
  never = never_told start rows least;
  lines = lines ∙ ap (lint_lines (found rows) tags) many;
}
