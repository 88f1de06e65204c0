use Rattle.df_lint.proofs.Names.{◌≡◌, map, take, first_cell}
use Rattle.df_lint.proofs.first.first_row.Given as goal

abbrev pub invariant-loop-tag : goal.invariant-loop-tag
invariant-loop-tag l = l.cells.items ≡ map (first_cell l.number l.root) (take l.tag-index l.tags)
