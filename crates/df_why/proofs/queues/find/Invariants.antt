use Rattle.df_why.proofs.Finding.{IsFindSoFar}
use Rattle.df_why.proofs.queues.find.Given as goal

abbrev pub invariant-loop-place : goal.invariant-loop-place
invariant-loop-place l = IsFindSoFar l.start l.all.tables l.journal l.place l.core l.queues.items l.finds.items
