use Rattle.df_lint.proofs.Names.{◌≡◌, ◌++◌, lint_lines, found, rows_of}
use Rattle.df_lint.proofs.text.append_rows.Given as goal

abbrev pub invariant-loop-root : goal.invariant-loop-root
invariant-loop-root l = l.to.items ≡ l.fn.to.items ++ lint_lines (found (rows_of l.tags l.rows)) l.tags l.root
