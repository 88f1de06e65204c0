use Rattle.std.proofs.Common.{All, vec_len}
use Rattle.df_desk.specs.Pass.{IsFree}
use Rattle.tests_at_the_edge.proofs.desk.join_all.Given as goal

abbrev pub invariant-loop-writer : goal.invariant-loop-writer
invariant-loop-writer l = IsFree l.desk l.pass × All (λ writer. IsFree l.desk writer.pass) l.writers.items

abbrev pub decreases-loop-writer : goal.decreases-loop-writer
decreases-loop-writer l = vec_len l.writers
