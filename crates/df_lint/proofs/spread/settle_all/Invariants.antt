use Rattle.df_lint.proofs.Names.{IsTable, rows_of, Extends, IsSeenBy}
use Rattle.df_lint.proofs.spread.settle_all.Given as goal

abbrev pub invariant-loop-other : goal.invariant-loop-other
invariant-loop-other l = record {
  table : IsTable l.roots l.tags l.rows.items;
  extends : Extends l.roots (rows_of l.tags l.fn.rows.items) l.fn.waiting.items (rows_of l.tags l.rows.items) l.waiting.items;
  seen : IsSeenBy l.roots (rows_of l.tags l.rows.items) l.waiting.items l.root l.other;
}
