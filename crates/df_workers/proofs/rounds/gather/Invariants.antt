use Rattle.df_workers.proofs.Names.{vec_len}
use Rattle.df_workers.proofs.Gathered.{IsGathering}
use Rattle.df_workers.proofs.rounds.gather.Given as goal

abbrev pub invariant-loop-worker : goal.invariant-loop-worker
invariant-loop-worker g l = IsGathering l.hub l.fn.pass.seen l.fn.all.items l.all.items l.pass l.came

abbrev pub decreases-loop-worker : goal.decreases-loop-worker
decreases-loop-worker g l = vec_len l.all
