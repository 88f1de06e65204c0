use Rattle.df_rules.proofs.Once.{deliveries_come_once}
use Rattle.df_rules.proofs.deliveries_come_once.Goals as goal

pub returns : goal.returns
returns c = λ start past u before later d same. deliveries_come_once start past u before later d same
