use Rattle.df_workers.proofs.Names.{brain_of}
use Rattle.df_workers.proofs.Gathered.{round_free, round_grew, round_served}
use Rattle.df_workers.proofs.rounds.round.Goals as goal

pub gather-requires-clause-workers : goal.gather-requires-clause-workers
gather-requires-clause-workers g c =
    round_free (brain_of g.B.StepFunction.next g.B.StepFunction.instance) c.args.hub.now c.args.max c.args.workers c.worked.new.pass.seen
    c.in_ok-all.all.items c.in_ok-all.ensures.round

pub returns-clause-grew : goal.returns-clause-grew
returns-clause-grew g c =
    round_grew (brain_of g.B.StepFunction.next g.B.StepFunction.instance) c.args.hub.now c.args.max c.args.workers c.worked.new.pass.seen
    c.in_ok-all.all.items c.in_ok-all.ensures.round c.gather.new.pass.seen c.gather.ensures.each c.args.pass.now.seen c.worked.ensures.begins
    c.gather.result c.gather.ensures.came

pub returns-clause-served : goal.returns-clause-served
returns-clause-served g c =
    round_served (brain_of g.B.StepFunction.next g.B.StepFunction.instance) c.args.hub.now c.args.max c.args.workers c.worked.new.pass.seen
    c.in_ok-all.all.items c.in_ok-all.ensures.round c.gather.new.pass.seen c.gather.ensures.each c.args.pass.now.seen c.worked.ensures.begins
    c.gather.result c.gather.ensures.came
