-- What a root begins with, as a pair.
use Rattle.std.specs.Prelude.{List}
use Rattle.df_label.specs.declared.label.Label.{Label}
use Rattle.df_label.specs.declared.privilege.Privilege.{Privilege}
use Rattle.df_start.specs.declared.start.RootStart.{RootStart}

-- a root's label and its privileges
abbrev pub begun : RootStart → Label × List Privilege
begun r = (r.label, r.privileges)
