use Rattle.df_rules.proofs.Names.{rows, roots}
use Rattle.df_rules.proofs.Growth.{grown_after, own_grows}
use Rattle.df_rules.proofs.units_grow.Goals as goal

pub returns : goal.returns
returns c = λ start past u st h newer. own_grows rows (roots start) grown_after newer past u st h
