use Rattle.df_rules.proofs.Names.{rows, roots}
use Rattle.df_rules.proofs.Taking.{gets_give_deliveries, absent_receives_nothing}
use Rattle.df_rules.proofs.TakingRows.{row_taking_laws, nothing_after_all}
use Rattle.df_rules.proofs.gets_give_deliveries.Goals as goal

pub returns-clause-units : goal.returns-clause-units
returns-clause-units c = λ start past legal u st h. gets_give_deliveries rows (roots start) (row_taking_laws start) past legal u st h

pub returns-clause-nothing : goal.returns-clause-nothing
returns-clause-nothing c = λ start past u f legal. nothing_after_all start past u f legal

pub returns-clause-absent : goal.returns-clause-absent
returns-clause-absent c = λ start past legal u h. absent_receives_nothing rows (roots start) (row_taking_laws start) past legal u h
