-- What is looked for in a view is found in one go.
use Rattle.df_handles.proofs.Names.{◌≡◌, ℕ, zero, suc, ◌<◌, Bool, true, false, not, ◌&&◌, ◌||◌, List, [], ◌∷◌, length, get_or, refl, sym, ap, subst, ◌∙◌, arith, filter, list_any, is_at, is_deleted, Part, has_at, visible, visible_named, Handle, is_visible, named_in, has_seen, shown_in, visible_in}
use Rattle.std.specs.Str.{bytes_eq}
use Rattle.std.proofs.lemmas.Bool.{and_parts}
use Rattle.std.proofs.lemmas.Slice.Eq.{bytes_eq-Decides}
use Rattle.df_label.specs.Label.{flows_to, label_eq}
use Rattle.df_label.proofs.LabelFacts.{label_eq-Decides}
use Rattle.df_label.specs.declared.label.Label.{Label}
use Rattle.df_part.specs.Part.{readable}
use Rattle.df_part.specs.declared.edit.Spot.{Spot}
use Rattle.df_unit.specs.Drafts.{shown}

-- two filters in turn are one
filtered_once : {A : Type 0} (q r : A → Bool) (xs : List A) → filter q (filter r xs) ≡ filter (λ y. r y && q y) xs
filtered_once q r [] = refl
filtered_once q r (x ∷ xs) = let e = filtered_once q r xs in grind (arith, e)

-- the visible parts are found in one go
pub visible_once : (input : Label) (d : Handle) → visible_in input d.named d.seen ≡ visible input d
visible_once input d = sym (filtered_once (λ part. not (is_deleted part d.named)) (readable input) d.seen)

-- so are the visible parts of a name
pub named_once : (input : Label) (name : List ℕ) (d : Handle) → named_in input d.named name d.seen ≡ visible_named input name d
named_once input name d =
    let has_name : Part → Bool = λ part. bytes_eq name part.name in
    sym (filtered_once has_name (is_visible input d.named) d.seen) ∙ ap (filter has_name) (visible_once input d)

-- so is what a read shows
pub shown_once : (input : Label) (name : List ℕ) (d : Handle) → shown_in input name d.named d.seen ≡ shown (visible_named input name d)
shown_once input name d = ap (λ (parts : List Part). shown parts) (named_once input name d)

-- ---- deletions

-- the visible parts are looked through in one go
any_filtered : {A : Type 0} (p q : A → Bool) (xs : List A) → list_any p (filter q xs) ≡ list_any (λ x. q x && p x) xs
any_filtered p q [] = refl
any_filtered p q (x ∷ xs) = let e = any_filtered p q xs in grind (arith, e)

pub seen_at : (input : Label) (d : Handle) (spot : Spot) → has_seen input d.named spot d.seen ≡ has_at (visible input d) spot
seen_at input d spot =
    sym (any_filtered (λ part. is_at part spot) (is_visible input d.named) d.seen) ∙ ap (λ (parts : List Part). has_at parts spot) (visible_once input d)

at_spot : (part : Part) (d : Spot) → is_at part d ≡ true → (part.name ≡ d.name) × (part.label ≡ d.label)
at_spot part d h =
    let both = and_parts (bytes_eq part.name d.name) (label_eq part.label d.label) h in
    ((bytes_eq-Decides part.name d.name).0 both.0, (label_eq-Decides part.label d.label).0 both.1)

-- a part at a spot is visible exactly where any other is
same_visible : (input : Label) (named : List Spot) (d : Spot) (x y : Part) → is_at x d ≡ true → is_at y d ≡ true → is_visible input named y ≡ is_visible input named x
same_visible input named d x y h k =
    let there = at_spot x d h in
    let here = at_spot y d k in
    let test : List ℕ → Label → Bool = λ n l. flows_to l input && not (list_any (λ spot. bytes_eq n spot.name && label_eq l spot.label) named) in
    ap (λ (n : List ℕ). test n y.label) (here.0 ∙ sym there.0) ∙ ap (λ (l : Label). test x.name l) (here.1 ∙ sym there.1)

hidden_all : (input : Label) (named : List Spot) (d : Spot) (x : Part) → is_at x d ≡ true → is_visible input named x ≡ false → (ys : List Part) → has_seen input named d ys ≡ false
hidden_all input named d x h hidden [] = refl
hidden_all input named d x h hidden (y ∷ ys) = by (is_at y d) refl (hidden_all input named d x h hidden ys)
  where
    and_false : (a : Bool) → (a && false) ≡ false
    and_false true = refl
    and_false false = refl

    by : (t : Bool) → is_at y d ≡ t → has_seen input named d ys ≡ false → has_seen input named d (y ∷ ys) ≡ false
    by true e rest = ap (λ b. (b && is_at y d) || has_seen input named d ys) (same_visible input named d x y h e ∙ hidden) ∙ rest
    by false e rest = ap (λ b. (is_visible input named y && b) || has_seen input named d ys) e ∙ ap (λ b. b || has_seen input named d ys) (and_false (is_visible input named y)) ∙ rest

-- the first part at a spot tells for all
seen_first : (input : Label) (named : List Spot) (d : Spot) (x : Part) (xs : List Part) → is_at x d ≡ true → has_seen input named d (x ∷ xs) ≡ is_visible input named x
seen_first input named d x xs h = by (is_visible input named x) refl
  where
    by : (t : Bool) → is_visible input named x ≡ t → ((is_visible input named x && is_at x d) || has_seen input named d xs) ≡ is_visible input named x
    by true e = rw (e, h) refl
    by false e = rw e (hidden_all input named d x h e xs)

-- so does any other at the spot
pub seen_any : (input : Label) (named : List Spot) (d : Spot) (xs : List Part) (i : ℕ) (x : Part) → i < length xs → x ≡ get_or xs i x
    → is_at x d ≡ true → has_seen input named d xs ≡ is_visible input named x
seen_any input named d [] i x lt e h = absurd (omega (arith, lt))
seen_any input named d (y ∷ ys) zero x lt e h =
    subst (λ z. has_seen input named d (z ∷ ys) ≡ is_visible input named x) e (seen_first input named d x ys h)
seen_any input named d (y ∷ ys) (suc i) x lt e h = by (is_at y d) refl (seen_any input named d ys i x (omega (arith, lt)) e h)
  where
    by : (t : Bool) → is_at y d ≡ t → has_seen input named d ys ≡ is_visible input named x → has_seen input named d (y ∷ ys) ≡ is_visible input named x
    by true k rest = seen_first input named d y ys k ∙ same_visible input named d x y h k
    by false k rest = let all = rest in grind (arith, k, all)
