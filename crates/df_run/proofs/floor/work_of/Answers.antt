use Rattle.df_run.proofs.Floors.{work_told}
use Rattle.df_run.proofs.floor.work_of.Goals as goal

pub returns : goal.returns
returns g c =
    let run = c.in_ok-run.run' in
    let told = c.told.result in
    work_told c.args.config.now c.args.ticks.items run.text.items told.text.items run.end told.end c.requires.config c.in_ok-run.ensures c.told.ensures.end
    c.told.ensures.text
