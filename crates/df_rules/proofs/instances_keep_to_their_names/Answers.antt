use Rattle.df_rules.proofs.Names.{roots}
use Rattle.df_rules.proofs.Instances.{keeps_to_its_name, subscribes_to_nothing}
use Rattle.df_rules.proofs.instances_keep_to_their_names.Goals as goal

pub returns-clause-state : goal.returns-clause-state
returns-clause-state c = λ start past legal o n t st h. keeps_to_its_name (roots start) past legal o n t st h

pub returns-clause-subscriptions : goal.returns-clause-subscriptions
returns-clause-subscriptions c = λ start past legal o n t. subscribes_to_nothing (roots start) past legal o n t
