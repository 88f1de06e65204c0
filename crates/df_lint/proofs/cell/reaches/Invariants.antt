use Rattle.df_lint.proofs.Names.{◌≡◌, ℕ, ◌<◌, false, cell_at, is_bar}
use Rattle.df_lint.proofs.cell.reaches.Given as goal

abbrev pub invariant-loop-place : goal.invariant-loop-place
invariant-loop-place l = (k : ℕ) → k < l.place → is_bar (cell_at l.giver k) (cell_at l.taker k) ≡ false
