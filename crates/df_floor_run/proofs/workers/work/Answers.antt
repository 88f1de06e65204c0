use Rattle.df_floor_run.proofs.Works.{worked}
use Rattle.df_floor_run.proofs.workers.work.Goals as goal

pub returns : goal.returns
returns g c = worked c.args.max c.args.crew c.open_turns.new.crew c.in_ok-crew.crew c.run_passes.new.crew c.in_ok-ended.ended c.end_of-end.result
    c.in_ok-open_turns.ensures.opening c.in_ok-crew.ensures.more c.in_ok-crew.ensures.stopped c.in_ok-ended.ensures.more c.in_ok-ended.ensures.full
    c.in_ok-ended.ensures.quiet c.in_ok-ended.ensures.limit c.end_of-end.ensures.end c.end_of-end.ensures.followed
