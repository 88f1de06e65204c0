use Rattle.std.specs.Prelude.{ℕ, ◌-◌, Bool, List, length, take, slice_index}
use Rattle.std.specs.declared.cmp.Ordering.{Ordering}
use Rattle.std.specs.Ordering.{nat_cmp, is_eq}
use Rattle.std.specs.Cmp.Lexicographic.{slice_cmp}

-- the order of tags: the first number that differs decides, and a prefix comes first
abbrev pub tag_cmp : List ℕ → List ℕ → Ordering
tag_cmp = slice_cmp nat_cmp

-- whether two tags are one
abbrev pub tag_eq : List ℕ → List ℕ → Bool
tag_eq t u = is_eq (tag_cmp t u)

-- a tag's own number, its last
abbrev pub number_of : List ℕ → ℕ
number_of t = slice_index t (length t - 1)

-- the path of the tag's maker
abbrev pub maker_of : List ℕ → List ℕ
maker_of t = take (length t - 1) t
