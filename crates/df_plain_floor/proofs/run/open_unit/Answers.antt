use Rattle.df_plain_floor.proofs.Names.{suc, brain_of}
use Rattle.df_plain_floor.proofs.Turning.{turns_trans}
use Rattle.df_plain_floor.proofs.run.open_unit.Goals as goal

pub returns-in_err-appends-clause-turns : goal.returns-in_err-appends-clause-turns
returns-in_err-appends-clause-turns g c =
    turns_trans (brain_of g.B.StepFunction.next g.B.StepFunction.instance) c.args.max c.args.crew.now c.loop.crew c.appends.new.crew c.loop.invariant.1
    c.in_err-appends.ensures.turns

pub loop-preserved : goal.loop-preserved
loop-preserved g c =
    let steps = c.loop.invariant.0 in (
      (suc steps.0, (c.loop.crew, steps.1, c.in_ok-appends.ensures.turn)),
      turns_trans (brain_of g.B.StepFunction.next g.B.StepFunction.instance) c.args.max c.args.crew.now c.loop.crew c.appends.new.crew c.loop.invariant.1
          c.in_ok-appends.ensures.turns,
    )
