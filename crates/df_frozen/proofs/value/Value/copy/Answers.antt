use Rattle.std.proofs.Common.{◌∙◌}
use Rattle.df_frozen.proofs.Contents.{plain_same}
use Rattle.df_frozen.proofs.value.Value.copy.Goals as goal

pub returns-in-Whole : goal.returns-in-Whole
returns-in-Whole c = plain_same _ _ (rw c.in-Whole.is at c.in_ok-value.ensures)

pub returns-in_ok-complete-in-Layer : goal.returns-in_ok-complete-in-Layer
returns-in_ok-complete-in-Layer c =
    plain_same _ _ (c.close.ensures ∙ c.in_ok-complete-in-Layer.ensures.content ∙ (rw c.in-Layer.is at c.in_ok-value.ensures).0)
