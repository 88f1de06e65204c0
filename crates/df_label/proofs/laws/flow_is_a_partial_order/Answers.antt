use Rattle.df_label.proofs.LabelFacts.{label_eq-Decides, flows_to-refl, flows_to-trans, flows_to-antisymm}
use Rattle.df_label.proofs.laws.flow_is_a_partial_order.Goals as goal

pub returns-clause-reflexive : goal.returns-clause-reflexive
returns-clause-reflexive c = flows_to-refl

pub returns-clause-transitive : goal.returns-clause-transitive
returns-clause-transitive c = flows_to-trans

pub returns-clause-antisymmetric : goal.returns-clause-antisymmetric
returns-clause-antisymmetric c = flows_to-antisymm

pub returns-clause-label_eq : goal.returns-clause-label_eq
returns-clause-label_eq c = label_eq-Decides
