use Rattle.df_plain_floor.proofs.Names.{brain_of}
use Rattle.df_plain_floor.proofs.Taking.{HaveTaken}
use Rattle.df_plain_floor.proofs.turns.take_turns.Given as goal

abbrev pub invariant-loop-unit : goal.invariant-loop-unit
invariant-loop-unit g l = HaveTaken (brain_of g.B.StepFunction.next g.B.StepFunction.instance) l.max l.units l.initial.crew l.unit-index l.crew
