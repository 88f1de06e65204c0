use Rattle.std.proofs.Common.{◌∙◌}
use Rattle.df_frozen.proofs.Contents.{items_same}
use Rattle.df_frozen.proofs.items.Items.copy.Goals as goal

pub returns : goal.returns
returns c = items_same _ _ (c.into_values.ensures ∙ c.in_ok-complete.ensures.content ∙ c.layer.ensures.content)
