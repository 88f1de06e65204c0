use Rattle.df_label.specs.Tag.{tag_cmp}
use Rattle.df_label.proofs.SetFacts.{same_elements}
use Rattle.df_label.proofs.TagSetFacts.{tag_cmp_exact, ascending-with, ascending-without, ascending-union, ascending-meet}
use Rattle.df_label.proofs.laws.sets_are_their_tags.Goals as goal

pub returns-clause-with : goal.returns-clause-with
returns-clause-with c = ascending-with

pub returns-clause-without : goal.returns-clause-without
returns-clause-without c = ascending-without

pub returns-clause-union : goal.returns-clause-union
returns-clause-union c = ascending-union

pub returns-clause-meet : goal.returns-clause-meet
returns-clause-meet c = ascending-meet

pub returns-clause-same : goal.returns-clause-same
returns-clause-same c = same_elements tag_cmp tag_cmp_exact
