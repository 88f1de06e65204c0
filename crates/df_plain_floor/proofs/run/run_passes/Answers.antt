use Rattle.df_plain_floor.proofs.Names.{brain_of}
use Rattle.df_plain_floor.proofs.Ending.{ended_so}
use Rattle.df_plain_floor.proofs.Turning.{turns_full, turns_more}
use Rattle.df_plain_floor.proofs.run.run_passes.Goals as goal

pub returns-in_err-make_passes-clause-more : goal.returns-in_err-make_passes-clause-more
returns-in_err-make_passes-clause-more g c = turns_more (brain_of g.B.StepFunction.next g.B.StepFunction.instance) c.args.max c.args.crew.now
    c.make_passes.new.crew c.make_passes.ensures.turns

pub returns-in_err-make_passes-clause-full : goal.returns-in_err-make_passes-clause-full
returns-in_err-make_passes-clause-full g c = turns_full (brain_of g.B.StepFunction.next g.B.StepFunction.instance) c.args.max c.args.crew.now
    c.make_passes.new.crew c.make_passes.ensures.turns

pub returns-clause-limit : goal.returns-clause-limit
returns-clause-limit g c = ended_so (brain_of g.B.StepFunction.next g.B.StepFunction.instance) c.args.max c.make_passes.new.crew c.outcome.result
    c.outcome.ensures c.in_ok-make_passes.ensures.rest

pub returns-clause-more : goal.returns-clause-more
returns-clause-more g c = turns_more (brain_of g.B.StepFunction.next g.B.StepFunction.instance) c.args.max c.args.crew.now c.make_passes.new.crew
    c.make_passes.ensures.turns

pub returns-clause-full : goal.returns-clause-full
returns-clause-full g c = turns_full (brain_of g.B.StepFunction.next g.B.StepFunction.instance) c.args.max c.args.crew.now c.make_passes.new.crew
    c.make_passes.ensures.turns
