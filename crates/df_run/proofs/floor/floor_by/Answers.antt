use Rattle.df_run.proofs.Names.{FloorWorkers}
use Rattle.df_run.proofs.Floors.{works_told}
use Rattle.df_run.proofs.floor.floor_by.Goals as goal

pub returns-in-Err-clause-stops : goal.returns-in-Err-clause-stops
returns-in-Err-clause-stops g c = c.in-Err.ensures.stops (FloorWorkers c.args.first c.args.second c.args.workers) tt

pub returns-in-Ok-work_of-clause-makes : goal.returns-in-Ok-work_of-clause-makes
returns-in-Ok-work_of-clause-makes g c =
    works_told c.in-Ok.files.0 c.in-Ok.files.1.items c.args.first c.args.second c.args.workers _ _ c.in-Ok-work_of.output.end c.in-Ok-work_of.output.text.items
    c.in-Ok.ensures.config c.in-Ok.ensures.ticks c.in-Ok-work_of.ensures
