use Rattle.df_label.specs.Privilege.{privilege_cmp}
use Rattle.df_label.proofs.SetFacts.{same_elements}
use Rattle.df_label.proofs.PrivilegeFacts.{privilege_cmp_exact, privilege_eq-Decides, contains-add, ascending-add}
use Rattle.df_label.proofs.laws.privileges_are_sets.Goals as goal

pub returns-clause-contains : goal.returns-clause-contains
returns-clause-contains c = contains-add

pub returns-clause-privilege_eq : goal.returns-clause-privilege_eq
returns-clause-privilege_eq c = privilege_eq-Decides

pub returns-clause-ascending : goal.returns-clause-ascending
returns-clause-ascending c = ascending-add

pub returns-clause-same : goal.returns-clause-same
returns-clause-same c = same_elements privilege_cmp privilege_cmp_exact
