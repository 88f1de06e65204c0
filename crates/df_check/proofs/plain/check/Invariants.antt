use Rattle.df_check.proofs.Judged.{IsSoFar}
use Rattle.df_check.proofs.plain.check.Given as goal

abbrev pub invariant-loop-place : goal.invariant-loop-place
invariant-loop-place l = IsSoFar l.start l.journal l.place l.tables
