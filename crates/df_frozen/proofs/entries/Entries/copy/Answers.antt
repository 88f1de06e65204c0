use Rattle.std.proofs.Common.{◌∙◌}
use Rattle.df_frozen.proofs.Contents.{entries_same}
use Rattle.df_frozen.proofs.entries.Entries.copy.Goals as goal

pub returns : goal.returns
returns c =
    c.from_ascending.ensures ∙ entries_same _ _ (c.into_entries.ensures.value ∙ c.in_ok-complete.ensures.content ∙ c.layer.ensures.content)
