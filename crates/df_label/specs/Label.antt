use Rattle.std.specs.Prelude.{Bool, ◌&&◌}
use Rattle.df_label.specs.Ascending.{IsAscending}
use Rattle.df_label.specs.Tag.{tag_cmp}
use Rattle.df_label.specs.TagSet.{tag_set_eq, is_subset, union, meet}
use Rattle.df_label.specs.declared.label.Label.{Label}

-- can-flow-to: no secret is lost on the way, and no origin is made up
abbrev pub flows_to : Label → Label → Bool
flows_to a b = is_subset a.s b.s && is_subset b.i a.i

-- the secrets of either, and the origins of both
abbrev pub join : Label → Label → Label
join a b = record { s = union a.s b.s; i = meet a.i b.i }

-- whether two labels are one
abbrev pub label_eq : Label → Label → Bool
label_eq a b = tag_set_eq a.s b.s && tag_set_eq a.i b.i

-- both halves are sets, as those of every label of a program are
abbrev pub IsCanonical : Label → Type 0
IsCanonical l = IsAscending tag_cmp l.s × IsAscending tag_cmp l.i
