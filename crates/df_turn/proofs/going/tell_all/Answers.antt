use Rattle.df_brain.specs.Brain.{last_of}
use Rattle.df_rules.specs.Follows.{brain_of}
use Rattle.df_turn.proofs.Runs.{all_told, told_more}
use Rattle.df_turn.proofs.going.tell_all.Goals as goal

pub loop-entry-preserved : goal.loop-entry-preserved
loop-entry-preserved g c =
    told_more (brain_of g.B.StepFunction.next g.B.StepFunction.instance) c.args.entries.now c.loop-entry.entry-index c.entry-item.result (c.loop-entry.state, last_of c.loop-entry.last) _ _
    c.loop-entry-test.true c.entry-item.is c.in_ok-last.ensures c.loop-entry.invariant

pub returns : goal.returns
returns g c =
    all_told (brain_of g.B.StepFunction.next g.B.StepFunction.instance) c.args.entries.now c.loop-entry.entry-index (c.loop-entry.state, last_of c.loop-entry.last) _ c.loop-entry-test.false c.loop-entry.invariant
