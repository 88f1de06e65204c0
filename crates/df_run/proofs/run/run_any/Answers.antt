use Rattle.df_run.proofs.Ending.{end_outcome}
use Rattle.df_run.proofs.Stopping.{stop_outcome}
use Rattle.df_run.proofs.run.run_any.Goals as goal

pub returns-in-Ok : goal.returns-in-Ok
returns-in-Ok g c = end_outcome c.args.command.now _ c.in-Ok.output.end c.in-Ok.output.text.items c.in-Ok.ensures.makes _ _ c.write_output-status.result
    c.write_output-status.ensures.written _ _ _ _ c.write_output-status.ensures.write_fault

pub returns-in-Err : goal.returns-in-Err
returns-in-Err g c = stop_outcome c.args.command.now _ _ _ c.in-Err.status c.in-Err.ensures.stops _ _
