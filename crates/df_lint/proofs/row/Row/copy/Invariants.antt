use Rattle.df_lint.proofs.Names.{◌≡◌, take}
use Rattle.df_lint.proofs.row.Row.copy.Given as goal

abbrev pub invariant-loop-cell : goal.invariant-loop-cell
invariant-loop-cell l = l.cells.items ≡ take l.cell-index l.cell-items
