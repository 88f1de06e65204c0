use Rattle.df_lint.proofs.Names.{sym, arith}
use Rattle.df_lint.proofs.Cells.{bar_found, no_bar_from}
use Rattle.df_lint.proofs.cell.reaches.Goals as goal

pub returns-then-is_bar : goal.returns-then-is_bar
returns-then-is_bar c = let h = c.if-is_bar.ensures in sym (bar_found c.args.giver.now c.args.taker.now c.loop-place.place c.requires c.loop-place-test.true (sym h))

pub returns : goal.returns
returns c = let done = c.loop-place-test.false in sym (no_bar_from c.args.giver.now c.args.taker.now c.requires (λ k lt. c.loop-place.invariant k (omega arith)))
