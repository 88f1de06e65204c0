use Rattle.df_priv.proofs.HeldFacts.{needed-needed_to_attach}
use Rattle.df_priv.proofs.laws.use_and_passing_on_are_apart.Goals as goal

pub returns : goal.returns
returns c = needed-needed_to_attach
