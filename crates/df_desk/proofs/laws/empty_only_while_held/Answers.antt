use Rattle.df_desk.proofs.Moments.{is_empty_only_while_held}
use Rattle.df_desk.proofs.laws.empty_only_while_held.Goals as goal

pub returns : goal.returns
returns g c = is_empty_only_while_held g.V.Journaled.origin g.V.Journaled.list
