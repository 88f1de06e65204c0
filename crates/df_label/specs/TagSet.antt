-- Sets of tags as ascending lists. Each operation is named as the call that computes it.
use Rattle.std.specs.Prelude.{◌≡◌, ℕ, Bool, true, false, not, List, [], ◌∷◌, Option, IsTrue, nat_eq}
use Rattle.std.specs.declared.cmp.Ordering.{Ordering}
use Rattle.std.specs.Cmp.Lexicographic.{pointwise, slice_cmp}
use Rattle.std.specs.Ordering.{is_le}
use Rattle.std.specs.List.{list_all, find, filter}
use Rattle.df_label.specs.Ascending.{contains_by, insert_by}
use Rattle.df_label.specs.Tag.{tag_cmp, tag_eq}

-- the order of sets as lists of tags: the first tag that differs decides, and a prefix comes first
abbrev pub tag_set_cmp : List (List ℕ) → List (List ℕ) → Ordering
tag_set_cmp = slice_cmp tag_cmp

-- whether two sets are one
abbrev pub tag_set_eq : List (List ℕ) → List (List ℕ) → Bool
tag_set_eq = pointwise (pointwise nat_eq)

-- whether the tag is in the set
abbrev pub contains : List (List ℕ) → List ℕ → Bool
contains ts t = contains_by tag_cmp ts t

-- whether each tag of the first set is in the second
abbrev pub is_subset : List (List ℕ) → List (List ℕ) → Bool
is_subset ts of = list_all (λ t. contains of t) ts

-- the least tag of the second set that the first lacks
abbrev pub first_missing : List (List ℕ) → List (List ℕ) → Option (List ℕ)
first_missing ts of = find (λ t. not (contains ts t)) of

-- the set and the tag
abbrev pub with : List (List ℕ) → List ℕ → List (List ℕ)
with ts t = insert_by tag_cmp ts t

-- the set but for the tag
abbrev pub without : List (List ℕ) → List ℕ → List (List ℕ)
without ts t = filter (λ u. not (tag_eq u t)) ts

-- the tags of either set
abbrev pub union : List (List ℕ) → List (List ℕ) → List (List ℕ)
union ts [] = ts
union ts (u ∷ us) = union (with ts u) us

-- the tags of both sets
abbrev pub meet : List (List ℕ) → List (List ℕ) → List (List ℕ)
meet ts us = filter (λ t. contains us t) ts

-- a tag of the second set that the first lacks, and below all others of that kind
pub record IsLeastMissing (ts of : List (List ℕ)) (t : List ℕ) : Type 0 where
  pub wanted : IsTrue (contains of t)
  pub missing : contains ts t ≡ false
  pub least : (u : List ℕ) → IsTrue (contains of u) → contains ts u ≡ false →
      is_le (tag_cmp t u) ≡ true
