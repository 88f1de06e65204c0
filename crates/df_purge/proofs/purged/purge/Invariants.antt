use Rattle.df_purge.proofs.SoFar.{IsSoFar}
use Rattle.df_purge.proofs.purged.purge.Given as goal

abbrev pub invariant-loop-kept : goal.invariant-loop-kept
invariant-loop-kept l = IsSoFar l.start l.label l.journal l.kept-index l.tables l.left.items
