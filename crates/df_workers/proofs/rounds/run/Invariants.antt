use Rattle.df_workers.proofs.Names.{◌-◌, length, IsPrefix, IsFree}
use Rattle.df_workers.proofs.rounds.run.Given as goal

abbrev pub invariant-loop : goal.invariant-loop
invariant-loop g l = IsFree l.hub l.pass × IsPrefix l.initial.pass.seen l.pass.seen

abbrev pub decreases-loop : goal.decreases-loop
decreases-loop g l = l.max - length l.pass.seen
