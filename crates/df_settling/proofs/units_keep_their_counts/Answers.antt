use Rattle.df_settling.proofs.Counts.{keep_counts}
use Rattle.df_settling.proofs.units_keep_their_counts.Goals as goal

pub returns : goal.returns
returns c = keep_counts
