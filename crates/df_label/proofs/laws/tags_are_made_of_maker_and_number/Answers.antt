use Rattle.df_label.proofs.TagFacts.{maker_of-push, number_of-push}
use Rattle.df_label.proofs.laws.tags_are_made_of_maker_and_number.Goals as goal

pub returns-clause-maker : goal.returns-clause-maker
returns-clause-maker c = maker_of-push

pub returns-clause-number : goal.returns-clause-number
returns-clause-number c = number_of-push
