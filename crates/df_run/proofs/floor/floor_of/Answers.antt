use Rattle.df_run.proofs.Names.{Floor}
use Rattle.df_run.proofs.Floors.{floor_told}
use Rattle.df_run.proofs.floor.floor_of.Goals as goal

pub returns-in-Err-clause-stops : goal.returns-in-Err-clause-stops
returns-in-Err-clause-stops g c = c.in-Err.ensures.stops (Floor c.args.first c.args.second) tt

pub returns-in-Ok-run_of-clause-makes : goal.returns-in-Ok-run_of-clause-makes
returns-in-Ok-run_of-clause-makes g c =
    floor_told c.in-Ok.files.0 c.in-Ok.files.1.items c.args.first c.args.second _ _ c.in-Ok-run_of.output.end c.in-Ok-run_of.output.text.items
    c.in-Ok.ensures.config c.in-Ok.ensures.ticks c.in-Ok-run_of.ensures
