use Rattle.df_plain_floor.proofs.Names.{◌+◌, arith, brain_of}
use Rattle.df_plain_floor.proofs.Opening.{opened_more}
use Rattle.df_plain_floor.proofs.Turning.{turns_full, turns_more, turns_trans}
use Rattle.df_plain_floor.proofs.run.open_turns.Goals as goal

pub returns-in_err-open_unit-clause-turns : goal.returns-in_err-open_unit-clause-turns
returns-in_err-open_unit-clause-turns g c =
    turns_trans (brain_of g.B.StepFunction.next g.B.StepFunction.instance) c.args.max c.args.crew.now c.loop-others.crew c.open_unit.new.crew
    c.loop-others.invariant.1 c.in_err-open_unit.ensures.turns

pub returns-in_err-open_unit-clause-more : goal.returns-in_err-open_unit-clause-more
returns-in_err-open_unit-clause-more g c =
    turns_more (brain_of g.B.StepFunction.next g.B.StepFunction.instance) c.args.max c.args.crew.now c.open_unit.new.crew
    (turns_trans (brain_of g.B.StepFunction.next g.B.StepFunction.instance) c.args.max c.args.crew.now c.loop-others.crew c.open_unit.new.crew
    c.loop-others.invariant.1 c.in_err-open_unit.ensures.turns)

pub returns-in_err-open_unit-clause-full : goal.returns-in_err-open_unit-clause-full
returns-in_err-open_unit-clause-full g c =
    turns_full (brain_of g.B.StepFunction.next g.B.StepFunction.instance) c.args.max c.args.crew.now c.open_unit.new.crew
    (turns_trans (brain_of g.B.StepFunction.next g.B.StepFunction.instance) c.args.max c.args.crew.now c.loop-others.crew c.open_unit.new.crew
    c.loop-others.invariant.1 c.in_err-open_unit.ensures.turns)

pub loop-others-preserved : goal.loop-others-preserved
loop-others-preserved g c = (
  opened_more (brain_of g.B.StepFunction.next g.B.StepFunction.instance) c.args.max c.loop-others.others (c.loop-others.others + 1) c.args.crew.now
      c.loop-others.crew c.open_unit.new.crew c.root.result (omega arith) c.root.ensures
      c.loop-others.invariant.0 c.in_ok-open_unit.ensures.opened,
  turns_trans (brain_of g.B.StepFunction.next g.B.StepFunction.instance) c.args.max c.args.crew.now c.loop-others.crew c.open_unit.new.crew
      c.loop-others.invariant.1 c.in_ok-open_unit.ensures.turns,
)

pub returns-clause-more : goal.returns-clause-more
returns-clause-more g c = turns_more (brain_of g.B.StepFunction.next g.B.StepFunction.instance) c.args.max c.args.crew.now c.loop-others.crew
    c.loop-others.invariant.1

pub returns-clause-full : goal.returns-clause-full
returns-clause-full g c = turns_full (brain_of g.B.StepFunction.next g.B.StepFunction.instance) c.args.max c.args.crew.now c.loop-others.crew
    c.loop-others.invariant.1
