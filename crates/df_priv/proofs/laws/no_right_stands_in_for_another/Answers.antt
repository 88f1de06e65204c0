use Rattle.df_priv.proofs.HeldFacts.{holds-other_right}
use Rattle.df_priv.proofs.laws.no_right_stands_in_for_another.Goals as goal

pub returns : goal.returns
returns c = holds-other_right
