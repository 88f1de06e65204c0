use Rattle.df_floor_run.proofs.Names.{IfOk-weaker}
use Rattle.df_floor_run.proofs.Works.{worked_run}
use Rattle.df_floor_run.proofs.workers.run_floor_by.Goals as goal

pub returns : goal.returns
returns g c = IfOk-weaker c.told_work.result _ _
    (λ run told. worked_run c.args.config.now c.args.ticks.items c.requires.config c.in_ok-crew.crew c.in_ok-crew.ensures run.text.items run.end told)
    c.told_work.ensures
