use Rattle.df_spelled.proofs.Rows.{answered_joined}
use Rattle.df_spelled.proofs.laws.an_answer_is_joined.Goals as goal

pub returns : goal.returns
returns c = answered_joined
