use Rattle.df_why.proofs.Growing.{IsGrownSoFar}
use Rattle.df_why.proofs.queues.extend_all.Given as goal

abbrev pub invariant-loop-name : goal.invariant-loop-name
invariant-loop-name l = IsGrownSoFar l.core l.units l.names l.place l.fn.queues l.name-index l.queues
