use Rattle.std.proofs.Common.{sym, ◌∙◌}
use Rattle.df_label.specs.Tag.{tag_cmp}
use Rattle.df_label.proofs.PlaceFacts.{searched}
use Rattle.df_label.proofs.TagSetFacts.{tag_cmp_exact}
use Rattle.df_label.proofs.tags.contains.Goals as goal

pub returns : goal.returns
returns c =
    c.is_ok.ensures.value ∙ sym (searched tag_cmp tag_cmp_exact c.args.t.now c.args.tags.now c.requires c.binary_search.result c.binary_search.ensures.bound c.binary_search.ensures.position)
