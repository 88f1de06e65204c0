use Rattle.df_settling.proofs.Runs.{runs}
use Rattle.df_settling.proofs.floors_run.Goals as goal

pub returns : goal.returns
returns c = runs
