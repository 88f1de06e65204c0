-- Sets of privileges as ascending lists. Each operation is named as the call that computes it.
use Rattle.std.specs.Prelude.{Bool, List, [], ◌∷◌}
use Rattle.df_label.specs.Ascending.{contains_by, insert_by}
use Rattle.df_label.specs.Privilege.{privilege_cmp}
use Rattle.df_label.specs.declared.privilege.Privilege.{Privilege}

-- whether the privilege is one of these
abbrev pub contains : List Privilege → Privilege → Bool
contains ps p = contains_by privilege_cmp ps p

-- these and the privilege
abbrev pub add : List Privilege → Privilege → List Privilege
add ps p = insert_by privilege_cmp ps p

-- these, and then each of the others
abbrev pub add_all : List Privilege → List Privilege → List Privilege
add_all ps [] = ps
add_all ps (p ∷ others) = add_all (add ps p) others
