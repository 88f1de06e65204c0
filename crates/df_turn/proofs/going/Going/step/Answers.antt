use Rattle.df_rules.specs.Follows.{brain_of}
use Rattle.df_turn.proofs.Goings.{step_goes}
use Rattle.df_turn.proofs.going.Going.step.Goals as goal

pub returns-in-Wants-clause-going : goal.returns-in-Wants-clause-going
returns-in-Wants-clause-going g c = λ m h.
    step_goes (brain_of g.B.StepFunction.next g.B.StepFunction.instance) m c.args.self.now c.make.new.self c.make.result c.make.ensures.taken c.make.ensures.stage c.make.ensures.state c.make.ensures.unchanged c.requires.goes_on h
