use Rattle.df_desk.proofs.Moments.{has_seen_beginnings}
use Rattle.df_desk.proofs.laws.seen_beginnings.Goals as goal

pub returns : goal.returns
returns g c = has_seen_beginnings g.V.Journaled.origin g.V.Journaled.list
