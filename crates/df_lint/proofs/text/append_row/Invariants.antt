use Rattle.df_lint.proofs.Names.{◌≡◌, ◌++◌, take, flat_map, tag_lines, row_of}
use Rattle.df_label.specs.Privileges.{contains as contains_privilege}
use Rattle.df_lint.proofs.text.append_row.Given as goal

abbrev pub invariant-loop-place : goal.invariant-loop-place
invariant-loop-place l = l.to.items ≡ l.fn.to.items ++ flat_map (tag_lines l.root (contains_privilege (row_of l.tags l.cells))) (take l.place l.tags)
