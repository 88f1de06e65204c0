-- The privileges that a unit holds, as an ascending list. Each operation is named as its call.
use Rattle.std.specs.Prelude.{Bool, List}
use Rattle.df_label.specs.Privileges.{contains, add, add_all}
use Rattle.df_label.specs.declared.privilege.Privilege.{Privilege}

-- whether the privilege is held
abbrev pub holds : List Privilege → Privilege → Bool
holds held p = contains held p

-- what is held once the privilege is granted
abbrev pub grant : List Privilege → Privilege → List Privilege
grant held p = add held p

-- what is held once all of these are granted
abbrev pub grant_all : List Privilege → List Privilege → List Privilege
grant_all held ps = add_all held ps
