use Rattle.df_image.proofs.Images.{kept_is_some, kept_is_whole, one_damage, one_journal}
use Rattle.df_image.proofs.laws.an_image_is_one_thing.Goals as goal

pub returns-clause-one_journal : goal.returns-clause-one_journal
returns-clause-one_journal c = one_journal

pub returns-clause-one_damage : goal.returns-clause-one_damage
returns-clause-one_damage c = one_damage

pub returns-clause-kept_is_whole : goal.returns-clause-kept_is_whole
returns-clause-kept_is_whole c = kept_is_whole

pub returns-clause-kept_is_some : goal.returns-clause-kept_is_some
returns-clause-kept_is_some c = kept_is_some
