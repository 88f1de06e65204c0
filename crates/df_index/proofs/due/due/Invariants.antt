use Rattle.std.proofs.Common.{◌≡◌, ◌≤◌, ◌+◌, take}
use Rattle.df_index.specs.Due.{pairs_at}
use Rattle.df_index.specs.Occasion.{is_due_on}
use Rattle.df_index.proofs.due.due.Given as goal

abbrev pub invariant-loop-place : goal.invariant-loop-place
invariant-loop-place g l = record {
  due : l.found.items ≡ pairs_at (is_due_on g.F.Listed.matches l.occasion) l.subscriptions (take l.place-index l.places);
  bound : g.T.Tester.count l.tester ≤ g.T.Tester.count l.fn.tester + l.place-index;
}
