use Rattle.std.proofs.Common.{arith}
use Rattle.df_io.proofs.Pieces.{one_more, still_within}
use Rattle.df_io.proofs.write.write_all.Goals as goal

pub loop-done-preserved : goal.loop-done-preserved
loop-done-preserved g c = record {
  within = still_within c.args.text.now c.loop-done.done c.in_ok-count.count c.loop-done.invariant.within c.in_ok-count.ensures.takes.0;
  appended = one_more _ _ _ c.args.text.now c.loop-done.done c.in_ok-count.count c.loop-done.invariant.appended c.in_ok-count.ensures.appends;
  never_falls = omega (arith, c.loop-done.invariant.never_falls, c.in_ok-count.ensures.cause.never_falls);
}
