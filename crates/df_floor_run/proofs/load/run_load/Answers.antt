use Rattle.df_floor_run.proofs.Names.{IfOk-weaker, IsLoadText, TellsReport}
use Rattle.df_floor_run.specs.declared.run.FloorRun.{FloorRun}
use Rattle.df_floor_run.proofs.Whole.{load_text}
use Rattle.df_floor_run.proofs.load.run_load.Goals as goal

pub returns : goal.returns
returns c =
    let config = c.in_ok-config.config in
    let ticks = c.in_ok-ticks.ticks.items in
    IfOk-weaker c.told_report.result (λ (run : FloorRun). TellsReport config.max_steps c.in_ok-crew.crew run.text.items)
    (λ (run : FloorRun). IsLoadText c.args.key c.args.n run.text.items)
    (λ run tells. load_text c.args.key c.args.n c.requires ticks c.in_ok-ticks.ensures.ticks c.in_ok-ticks.ensures.count config c.in_ok-config.ensures
    c.in_ok-crew.crew c.in_ok-crew.ensures run.text.items tells) c.told_report.ensures
