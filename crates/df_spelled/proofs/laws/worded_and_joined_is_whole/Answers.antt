use Rattle.df_spelled.proofs.Rows.{whole_of}
use Rattle.df_spelled.proofs.laws.worded_and_joined_is_whole.Goals as goal

pub returns : goal.returns
returns c = whole_of
