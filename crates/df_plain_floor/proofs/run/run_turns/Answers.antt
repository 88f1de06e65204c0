use Rattle.df_plain_floor.proofs.Names.{brain_of}
use Rattle.df_plain_floor.proofs.Turning.{turns_full, turns_more, turns_trans}
use Rattle.df_plain_floor.proofs.run.run_turns.Goals as goal

pub returns-clause-turns : goal.returns-clause-turns
returns-clause-turns g c =
    turns_trans (brain_of g.B.StepFunction.next g.B.StepFunction.instance) c.args.max c.args.crew.now c.open_turns.new.crew c.run_passes.new.crew
    c.open_turns.ensures.turns c.run_passes.ensures.turns

pub returns-clause-more : goal.returns-clause-more
returns-clause-more g c = turns_more (brain_of g.B.StepFunction.next g.B.StepFunction.instance) c.args.max c.args.crew.now c.run_passes.new.crew
    (returns-clause-turns g c)

pub returns-clause-full : goal.returns-clause-full
returns-clause-full g c = turns_full (brain_of g.B.StepFunction.next g.B.StepFunction.instance) c.args.max c.args.crew.now c.run_passes.new.crew
    (returns-clause-turns g c)
