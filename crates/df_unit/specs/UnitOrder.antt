-- The order of units: roots and the units that units made come first, by path; then instances, by
-- owner, subscription and tags.
use Rattle.std.specs.Prelude.{List, ℕ}
use Rattle.std.specs.Cmp.Lexicographic.{slice_cmp}
use Rattle.std.specs.Ordering.{nat_cmp, ordering_then}
use Rattle.std.specs.declared.cmp.Ordering.{Ordering}
use Rattle.std.specs.declared.cmp.Ordering.TheVariants.{Less, Greater}
use Rattle.df_label.specs.TagSet.{tag_set_cmp}
use Rattle.df_unit.specs.declared.name.UnitName.{UnitName}
use Rattle.df_unit.specs.declared.name.UnitName.TheVariants.{Root, Managed}

-- the order of paths as lists of numbers
abbrev pub path_cmp : List ℕ → List ℕ → Ordering
path_cmp = slice_cmp nat_cmp

-- the order of units
abbrev pub unit_cmp : UnitName → UnitName → Ordering
unit_cmp (Root p) (Root q) = path_cmp p q
unit_cmp (Root p) (Managed q m t) = Less
unit_cmp (Managed p n s) (Root q) = Greater
unit_cmp (Managed p n s) (Managed q m t) =
    ordering_then (path_cmp p q) (ordering_then (nat_cmp n m) (tag_set_cmp s t))
