use Rattle.df_label.proofs.TagSetFacts.{tag_eq-Decides, contains-with, contains-without, contains-union, contains-meet}
use Rattle.df_label.proofs.laws.operations_are_those_of_sets.Goals as goal

pub returns-clause-tag_eq : goal.returns-clause-tag_eq
returns-clause-tag_eq c = tag_eq-Decides

pub returns-clause-with : goal.returns-clause-with
returns-clause-with c = contains-with

pub returns-clause-without : goal.returns-clause-without
returns-clause-without c = contains-without

pub returns-clause-union : goal.returns-clause-union
returns-clause-union c = contains-union

pub returns-clause-meet : goal.returns-clause-meet
returns-clause-meet c = contains-meet
