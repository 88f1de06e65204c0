-- Whether two names are one.
use Rattle.std.specs.Prelude.{Bool, false, nat_eq, ◌&&◌, ◌==◌}
use Rattle.std.specs.Cmp.Lexicographic.{pointwise}
use Rattle.df_label.specs.TagSet.{tag_set_eq}
use Rattle.df_unit.specs.declared.name.UnitName.{UnitName}
use Rattle.df_unit.specs.declared.name.UnitName.TheVariants.{Root, Managed}
use Rattle.df_unit.specs.declared.name.EventName.{EventName}

-- whether two units are one
abbrev pub same : UnitName → UnitName → Bool
same (Root p) (Root q) = pointwise nat_eq p q
same (Managed p n s) (Managed q m t) = pointwise nat_eq p q && ((n == m) && tag_set_eq s t)
same (Root p) (Managed q m t) = false
same (Managed p n s) (Root q) = false

-- whether two events are one
abbrev pub same_event : EventName → EventName → Bool
same_event a b = (a.number == b.number) && same a.unit b.unit
