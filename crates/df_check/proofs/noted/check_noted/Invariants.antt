use Rattle.df_check.proofs.JudgedNoted.{IsSoFar}
use Rattle.df_check.proofs.noted.check_noted.Given as goal

abbrev pub invariant-loop-place : goal.invariant-loop-place
invariant-loop-place l = IsSoFar l.start l.journal l.place l.tables
