use Rattle.df_floor_run.proofs.Whole.{ran}
use Rattle.df_floor_run.proofs.running.run_crew.Goals as goal

pub returns : goal.returns
returns c =
    let e = c.in_ok-ended.ensures in
    let end = c.end_of.ensures in
    ran c.args.max c.args.crew.now c.run_turns.new.crew c.in_ok-ended.ended c.end_of.result e.run e.quiet e.limit e.more end.end end.followed
