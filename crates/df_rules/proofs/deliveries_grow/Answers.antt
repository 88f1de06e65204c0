use Rattle.df_rules.proofs.Names.{rows, roots}
use Rattle.df_rules.proofs.Growth.{deliveries_grow}
use Rattle.df_rules.proofs.deliveries_grow.Goals as goal

pub returns : goal.returns
returns c = λ start past newer u. deliveries_grow rows (roots start) newer past u
