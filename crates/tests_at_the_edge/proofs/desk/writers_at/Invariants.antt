use Rattle.std.proofs.Common.{All}
use Rattle.df_desk.specs.Pass.{IsFree}
use Rattle.tests_at_the_edge.proofs.desk.writers_at.Given as goal

abbrev pub invariant-loop-number : goal.invariant-loop-number
invariant-loop-number l = IsFree l.desk l.pass × All (λ writer. IsFree l.desk writer.pass) l.writers.items
