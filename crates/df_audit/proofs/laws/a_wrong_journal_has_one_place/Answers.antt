use Rattle.df_audit.proofs.Exact.{one_place}
use Rattle.df_audit.proofs.laws.a_wrong_journal_has_one_place.Goals as goal

pub returns : goal.returns
returns c bytes place other v w = one_place bytes place other v.0 w.0 v.1 w.1 v.2 w.2
