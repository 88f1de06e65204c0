use Rattle.df_rules.proofs.Names.{roots}
use Rattle.df_rules.proofs.Above.{instance_above, child_is_above}
use Rattle.df_rules.proofs.units_begin_above.Goals as goal

pub returns-clause-instances : goal.returns-clause-instances
returns-clause-instances c = λ start past e o n t st begins. instance_above (roots start) e past o n t st begins

pub returns-clause-children : goal.returns-clause-children
returns-clause-children c = λ start past e path st begins. child_is_above (roots start) e past path st begins
