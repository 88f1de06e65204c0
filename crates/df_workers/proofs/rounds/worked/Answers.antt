use Rattle.df_workers.proofs.Names.{arith, brain_of}
use Rattle.df_workers.proofs.Gathered.{round_there}
use Rattle.df_workers.proofs.rounds.worked.Goals as goal

pub returns-clause-round : goal.returns-clause-round
returns-clause-round g c =
    rw c.in_ok-all.ensures.seen (round_there (brain_of g.B.StepFunction.next g.B.StepFunction.instance) c.args.hub.now c.args.max c.args.workers
    c.units.new.pass.seen c.as_slice.result.now c.in_ok-units.units.items c.as_mut_slice.result.now c.work_all.new.all c.in_ok-all.all.items
    c.in_ok-all.all.len c.in_ok-units.ensures.units c.as_slice.ensures.value c.work_all.ensures c.requires.workers c.as_mut_slice.ensures.value
    (let o = c.in_ok-all.all.ok.0 in omega (arith, o)) c.in_ok-all.ensures.count c.in_ok-all.ensures.hired)
