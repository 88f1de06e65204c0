use Rattle.df_desk.proofs.Moments.{has_origin}
use Rattle.df_desk.proofs.laws.one_origin.Goals as goal

pub returns : goal.returns
returns g c = has_origin g.V.Journaled.origin g.V.Journaled.list
