use Rattle.df_desk.specs.Pass.{IsFree}
use Rattle.tests_at_the_edge.proofs.desk.Writer.write.Given as goal

abbrev pub invariant-loop-number : goal.invariant-loop-number
invariant-loop-number g l = IsFree l.desk l.self.pass
