use Rattle.df_floor_run.proofs.Names.{IfOk-weaker, IsFloorRun, TellsRun}
use Rattle.df_floor_run.specs.declared.run.FloorRun.{FloorRun}
use Rattle.df_floor_run.proofs.Whole.{floor_run}
use Rattle.df_floor_run.proofs.run.run_floor.Goals as goal

pub returns : goal.returns
returns c =
    let config = c.args.config.now in
    let ticks = c.args.ticks.items in
    let crew = c.in_ok-crew.crew in
    IfOk-weaker c.told_run.result (λ (run : FloorRun). TellsRun config.max_steps crew run.text.items run.end)
    (λ (run : FloorRun). IsFloorRun config ticks run.text.items run.end)
    (λ run tells. floor_run config ticks c.requires.config crew c.in_ok-crew.ensures run.text.items run.end tells) c.told_run.ensures
