use Rattle.df_workers.proofs.Names.{brain_of}
use Rattle.df_workers.proofs.Serving.{IsSharing}
use Rattle.df_workers.proofs.worker.serve_share.Given as goal

abbrev pub invariant-loop-place : goal.invariant-loop-place
invariant-loop-place g l =
    IsSharing (brain_of g.B.StepFunction.next g.B.StepFunction.instance) l.hub l.max l.share.workers l.number l.share.units.now l.fn.pass.seen l.place l.pass
    l.came
