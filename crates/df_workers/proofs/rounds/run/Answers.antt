use Rattle.df_workers.proofs.Names.{brain_of}
use Rattle.df_workers.proofs.Gathered.{run_done}
use Rattle.df_workers.proofs.rounds.run.Goals as goal

pub returns-clause-ran : goal.returns-clause-ran
returns-clause-ran g c =
    run_done (brain_of g.B.StepFunction.next g.B.StepFunction.instance) c.args.hub.now.origin c.args.max c.args.pass.now.seen c.loop.pass.seen
    c.round.new.pass.seen
    c.in_ok-round.field-0 c.loop.invariant.1 (c.in_ok-goes_on.ensures.ends c.if-branch.false) c.in_ok-round.ensures.grew c.in_ok-round.ensures.served
