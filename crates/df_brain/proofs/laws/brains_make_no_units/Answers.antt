use Rattle.df_rules.specs.Follows.{brain_of, last_of, state_after}
use Rattle.df_brain.proofs.laws.brains_make_no_units.Goals as goal

pub returns : goal.returns
returns g c = λ b replies. g.met.B.Brain.makes_no_unit
    (state_after (brain_of g.B.StepFunction.next g.B.StepFunction.instance) b replies)
    (last_of replies)
