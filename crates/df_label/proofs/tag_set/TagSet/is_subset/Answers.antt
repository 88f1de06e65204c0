use Rattle.std.proofs.Common.{◌≡◌, [], sym, ap, ◌∙◌}
use Rattle.df_label.specs.code.SpelledTags.{tags_of}
use Rattle.df_label.proofs.TagSetFacts.{is_subset-nil}
use Rattle.df_label.proofs.tag_set.TagSet.is_subset.Goals as goal

pub returns-in-Some-None : goal.returns-in-Some-None
returns-in-Some-None c =
    let none : c.args.of.now ≡ [] = sym c.of.view_is ∙ ap tags_of c.in-Some-None.is-1 in
    is_subset-nil c.args.self.now c.args.of.now c.is_empty.result none c.is_empty.ensures
