use Rattle.df_label.proofs.LabelFacts.{flows_to-join_left, flows_to-join_right, join-flows_to, canonical-join}
use Rattle.df_label.proofs.laws.join_is_the_least_upper_bound.Goals as goal

pub returns-clause-left : goal.returns-clause-left
returns-clause-left c = flows_to-join_left

pub returns-clause-right : goal.returns-clause-right
returns-clause-right c = flows_to-join_right

pub returns-clause-least : goal.returns-clause-least
returns-clause-least c = join-flows_to

pub returns-clause-canonical : goal.returns-clause-canonical
returns-clause-canonical c = canonical-join
