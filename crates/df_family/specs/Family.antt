-- The tags of a start, and the family of each of its roots.
use Rattle.std.specs.Prelude.{ℕ, Bool, false, ◌==◌, ◌||◌, List, [], ◌∷◌}
use Rattle.std.specs.List.{list_any}
use Rattle.df_label.specs.Tag.{tag_eq}
use Rattle.df_label.specs.TagSet.{contains}
use Rattle.df_label.specs.declared.label.Label.{Label}
use Rattle.df_label.specs.declared.privilege.Privilege.{Privilege}
use Rattle.df_rules.specs.Always.{Roots}
use Rattle.df_unit.specs.Rows.{path_of}
use Rattle.df_unit.specs.declared.name.UnitName.{UnitName}

-- whether a root begins with the tag, in its label or in a privilege
abbrev pub root_names : List ℕ → Label × List Privilege → Bool
root_names t root =
    contains root.0.s t || (contains root.0.i t || list_any (λ p. tag_eq p.tag t) root.1)

-- whether the start names the tag
abbrev pub names : Roots → List ℕ → Bool
names start t = list_any (root_names t) start

-- whether the path begins with the root's number
abbrev pub begins_with : ℕ → List ℕ → Bool
begins_with k [] = false
begins_with k (m ∷ path) = m == k

-- whether the unit is of the root's family: the root, a unit made by one of the family, or an
-- instance of one of them
abbrev pub is_of : ℕ → UnitName → Bool
is_of k u = begins_with k (path_of u)
