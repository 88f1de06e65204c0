use Rattle.df_plain_floor.proofs.Names.{◌-◌, length, AreTurns, IsPass, brain_of}
use Rattle.df_plain_floor.proofs.Passing.{AreSteps}
use Rattle.df_plain_floor.proofs.run.make_passes.Given as goal

abbrev pub invariant-loop : goal.invariant-loop
invariant-loop g l =
    AreSteps (IsPass (brain_of g.B.StepFunction.next g.B.StepFunction.instance) l.max) l.initial.crew l.crew
    × AreTurns (brain_of g.B.StepFunction.next g.B.StepFunction.instance) l.max l.initial.crew l.crew

abbrev pub decreases-loop : goal.decreases-loop
decreases-loop g l = l.max - length l.crew.core.1
