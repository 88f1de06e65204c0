use Rattle.df_audit.proofs.Exact.{right_is_not_wrong}
use Rattle.df_audit.proofs.laws.a_journal_is_right_or_wrong.Goals as goal

pub returns : goal.returns
returns c bytes place right wrong = right_is_not_wrong bytes place right.0 wrong.0 right.1 wrong.1 right.2 wrong.2
