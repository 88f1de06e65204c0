use Rattle.df_rules.proofs.Names.{roots}
use Rattle.df_rules.proofs.Numbers.{numbers_ascend, numbers_counted}
use Rattle.df_rules.proofs.subscriptions_are_numbered.Goals as goal

pub returns-clause-order : goal.returns-clause-order
returns-clause-order c = λ start past u. numbers_ascend (roots start) past u

pub returns-clause-count : goal.returns-clause-count
returns-clause-count c = λ start past u st h. numbers_counted (roots start) past u st h
