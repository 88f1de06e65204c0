use Rattle.df_lint.proofs.Names.{◌≡◌, ℕ, ◌<◌, length, true, Contains, Relation, Privilege, IsTable, row_at, rows_of, AreWithin, HasRows, IsSeen, PassesOn, work}
use Rattle.df_label.specs.Privileges.{contains as contains_privilege}
use Rattle.df_lint.proofs.Growing.{all_over_rows}
use Rattle.df_lint.proofs.spread.spread.Given as goal

abbrev pub invariant-loop-root : goal.invariant-loop-root
invariant-loop-root l = record {
  table : IsTable l.roots l.tags l.rows.items;
  count : length (rows_of l.tags l.rows.items) ≡ length (rows_of l.tags l.fn.rows.items);
  had : (k : ℕ) (p : Privilege) → contains_privilege (row_at (rows_of l.tags l.fn.rows.items) k) p ≡ true → contains_privilege (row_at (rows_of l.tags l.rows.items) k) p ≡ true;
  least : (g : Relation) → PassesOn l.roots g → HasRows g (rows_of l.tags l.fn.rows.items) → HasRows g (rows_of l.tags l.rows.items);
  in_range : (k : ℕ) → Contains l.waiting.items k → k < length l.roots;
  within : AreWithin (all_over_rows (rows_of l.tags l.fn.rows.items)) (rows_of l.tags l.rows.items);
  seen : (j k : ℕ) → j < length l.roots → k < length l.roots → IsSeen l.roots (rows_of l.tags l.rows.items) l.waiting.items j k;
}

abbrev pub decreases-loop-root : goal.decreases-loop-root
decreases-loop-root l = work (all_over_rows (rows_of l.tags l.fn.rows.items)) (rows_of l.tags l.rows.items) l.waiting.items
