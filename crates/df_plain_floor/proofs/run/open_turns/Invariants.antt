use Rattle.df_plain_floor.proofs.Names.{AreTurns, Opened, brain_of}
use Rattle.df_plain_floor.proofs.run.open_turns.Given as goal

abbrev pub invariant-loop-others : goal.invariant-loop-others
invariant-loop-others g l =
    Opened (brain_of g.B.StepFunction.next g.B.StepFunction.instance) l.max l.others l.initial.crew l.crew
    × AreTurns (brain_of g.B.StepFunction.next g.B.StepFunction.instance) l.max l.initial.crew l.crew
