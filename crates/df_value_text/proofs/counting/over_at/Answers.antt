use Rattle.df_value_text.proofs.Names.{subst, sym, arith, IsCounted}
use Rattle.df_value_text.proofs.CountingFronts.{counted_on}
use Rattle.df_value_text.proofs.CountingSteps.{reached_on, reached_over, never_ended, never_done}
use Rattle.df_value_text.proofs.counting.over_at.Goals as goal

pub returns-then-is_over : goal.returns-then-is_over
returns-then-is_over c =
    let so_far = c.loop-place.invariant in
    let here = c.loop-place.place in
    let over = reached_over c.args.bytes.now c.args.at here c.loop-place.walk c.step.new.self c.loop-place-test.true c.step.ensures so_far.low in
    (c.loop-place-test.true, over c.if-is_over.ensures so_far.reached)

pub loop-place-preserved : goal.loop-place-preserved
loop-place-preserved c =
    let so_far = c.loop-place.invariant in
    let within = c.loop-place-test.true in
    record {
      within = omega (arith, within);
      reached = reached_on c.args.bytes.now c.args.at c.loop-place.place c.loop-place.walk c.step.new.self within c.step.ensures so_far.reached;
      low = c.if-is_over.ensures;
      counted = subst IsCounted (sym c.step.ensures) (counted_on c.loop-place.walk _ so_far.counted);
    }

pub returns-else-not-is_done : goal.returns-else-not-is_done
returns-else-not-is_done c =
    let so_far = c.loop-place.invariant in
    never_done c.args.bytes.now c.args.at c.loop-place.place c.loop-place.walk (c.is_done.ensures c.if-not-is_done.false) so_far.low so_far.reached

pub returns-after-loop-place : goal.returns-after-loop-place
returns-after-loop-place c =
    let so_far = c.loop-place.invariant in
    never_ended c.args.bytes.now c.args.at c.loop-place.place c.loop-place.walk c.loop-place-test.false so_far.low so_far.reached
