use Rattle.df_label.proofs.TagSetFacts.{contains-included, is_subset-from_tags, first_missing-none, first_missing-least}
use Rattle.df_label.proofs.laws.inclusion_goes_by_the_tags.Goals as goal

pub returns-clause-is_subset : goal.returns-clause-is_subset
returns-clause-is_subset c = λ ts us. (λ h t k. contains-included ts us t h k, is_subset-from_tags ts us)

pub returns-clause-none_missing : goal.returns-clause-none_missing
returns-clause-none_missing c = first_missing-none

pub returns-clause-least_missing : goal.returns-clause-least_missing
returns-clause-least_missing c = first_missing-least
