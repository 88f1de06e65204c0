-- A root's cells before anything was passed on.
use Rattle.std.specs.Prelude.{ℕ, Bool, ◌||◌, List, map}
use Rattle.df_family.specs.Family.{begins_with}
use Rattle.df_label.specs.Privileges.{contains as contains_privilege}
use Rattle.df_label.specs.Tag.{maker_of}
use Rattle.df_label.specs.TagSet.{contains}
use Rattle.df_label.specs.declared.privilege.Right.{Right}
use Rattle.df_label.specs.declared.privilege.Right.TheVariants.{Plus, Minus, PlusAuth, MinusAuth}
use Rattle.df_start.specs.declared.start.RootStart.{RootStart}
use Rattle.df_lint.specs.declared.cell.Cell.{Cell}

-- whether the family may make the tag, or the start gives the right over it to the root
abbrev pub first_has : ℕ → RootStart → List ℕ → Right → Bool
first_has k root t right = begins_with k (maker_of t)
    || contains_privilege root.privileges (record { tag = t; right = right })

-- the cell of a root and a tag
abbrev pub first_cell : ℕ → RootStart → List ℕ → Cell
first_cell k root t = record {
  asked = contains root.label.i t;
  plus = first_has k root t Plus;
  minus = first_has k root t Minus;
  plus_auth = first_has k root t PlusAuth;
  minus_auth = first_has k root t MinusAuth;
}

-- the cells of a root
abbrev pub first_cells : List (List ℕ) → ℕ → RootStart → List Cell
first_cells tags k root = map (first_cell k root) tags
