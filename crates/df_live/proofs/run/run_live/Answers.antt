use Rattle.df_live.proofs.Answered.{stops_ends}
use Rattle.df_live.proofs.run.run_live.Goals as goal

pub returns-in-Err-clause-leaves : goal.returns-in-Err-clause-leaves
returns-in-Err-clause-leaves g c = (stops_ends _ _ _ _ _ _ _ _ c.in-Err.status c.in-Err.ensures.stops).0

pub returns-in-Err-clause-due : goal.returns-in-Err-clause-due
returns-in-Err-clause-due g c = (stops_ends _ _ _ _ _ _ _ _ c.in-Err.status c.in-Err.ensures.stops).1
