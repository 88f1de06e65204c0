use Rattle.df_lint.proofs.Names.{◌≡◌, ℕ, ◌<◌, length, slice_index_or, RootStart, cells_at, first_cells}
use Rattle.df_lint.proofs.first.first_rows.Given as goal

abbrev pub invariant-loop-number : goal.invariant-loop-number
invariant-loop-number l = record {
  count : length l.rows.items ≡ l.number;
  rows : (k : ℕ) (d : RootStart) → k < l.number → cells_at l.rows.items k ≡ first_cells l.tags k (slice_index_or l.roots k d);
}
