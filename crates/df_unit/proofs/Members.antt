-- Members of sets of tags, after one operation.
use Rattle.std.proofs.Common.{inl, inr, ◌≡◌, ◌⊎◌, ℕ, List, Bool, true, false, not, refl, sym, ◌∙◌}
use Rattle.std.proofs.lemmas.Bool.{and_parts, and_from, or_cases, or_left}
use Rattle.df_label.specs.Tag.{tag_eq}
use Rattle.df_label.specs.TagSet.{contains, with, without, union, meet}
use Rattle.df_label.proofs.TagSetFacts.{tag_eq-exact, tag_eq-itself, contains-with, contains-union, contains-meet, contains-without, contains-included, is_subset-with}

-- a set with a tag more has the tag
pub has_added : (ts : List (List ℕ)) (t : List ℕ) → contains (with ts t) t ≡ true
has_added ts t = contains-with ts t t ∙ or_left (tag_eq t t) (contains ts t) (tag_eq-itself t)

-- and what it had
pub has_still : (ts : List (List ℕ)) (t y : List ℕ) → contains ts y ≡ true → contains (with ts t) y ≡ true
has_still ts t y h = contains-included ts (with ts t) y (is_subset-with ts t) h

-- and nothing else
pub added_or_had : (ts : List (List ℕ)) (t y : List ℕ) → contains (with ts t) y ≡ true → (t ≡ y) ⊎ (contains ts y ≡ true)
added_or_had ts t y h = elim (or_cases (tag_eq t y) (contains ts y) (sym (contains-with ts t y) ∙ h)) [ inl e ↦ inl (tag_eq-exact t y e) | inr m ↦ inr m ]

pub in_either : (ts us : List (List ℕ)) (y : List ℕ) → contains (union ts us) y ≡ true → (contains ts y ≡ true) ⊎ (contains us y ≡ true)
in_either ts us y h = or_cases (contains ts y) (contains us y) (sym (contains-union ts us y) ∙ h)

pub in_both : (ts us : List (List ℕ)) (y : List ℕ) → contains ts y ≡ true → contains us y ≡ true → contains (meet ts us) y ≡ true
in_both ts us y h k = contains-meet ts us y ∙ and_from (contains ts y) (contains us y) h k

pub others_stay : (ts : List (List ℕ)) (t y : List ℕ) → contains ts y ≡ true → not (tag_eq y t) ≡ true → contains (without ts t) y ≡ true
others_stay ts t y h k = contains-without ts t y ∙ and_from (contains ts y) (not (tag_eq y t)) h k

pub stayed : (ts : List (List ℕ)) (t y : List ℕ) → contains (without ts t) y ≡ true → (contains ts y ≡ true) × (not (tag_eq y t) ≡ true)
stayed ts t y h = and_parts (contains ts y) (not (tag_eq y t)) (sym (contains-without ts t y) ∙ h)

-- a tag is another or isn't
pub same_or_not : (t u : List ℕ) → (t ≡ u) ⊎ (not (tag_eq t u) ≡ true)
same_or_not t u = go (tag_eq t u) refl
  where
    go : (b : Bool) → tag_eq t u ≡ b → (t ≡ u) ⊎ (not b ≡ true)
    go true e = inl (tag_eq-exact t u e)
    go false e = inr refl
