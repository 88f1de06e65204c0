use Rattle.df_plain_floor.proofs.Names.{brain_of}
use Rattle.df_plain_floor.proofs.Resting.{quiet}
use Rattle.df_plain_floor.proofs.laws.passes_end_at_rest.Goals as goal

pub returns : goal.returns
returns g c = λ max names crew. quiet (brain_of g.B.StepFunction.next g.B.StepFunction.instance) max names crew
