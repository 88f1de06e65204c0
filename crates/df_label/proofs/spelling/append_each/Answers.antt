use Rattle.std.proofs.Common.{subst, ◌∙◌}
use Rattle.std.proofs.lemmas.List.Elements.{All-more}
use Rattle.df_label.specs.Spelling.{tag_text, AreShort}
use Rattle.df_label.proofs.Joins.{item_appended}
use Rattle.df_label.proofs.spelling.append_each.Goals as goal

pub loop-i-preserved : goal.loop-i-preserved
loop-i-preserved c = record {
  text = item_appended 44 tag_text c.args.tags.now c.loop-i.i c.index-tags-i.result c.index-tags-i.result c.loop-i-test.true c.index-tags-i.is _ _ _ _ c.loop-i.invariant.text c.in_ok-append_separator.ensures c.in_ok-append_tag.ensures;
  short = All-more AreShort c.args.tags.now c.loop-i.i c.index-tags-i.result c.loop-i-test.true c.loop-i.invariant.short (subst AreShort (c.as_slice.ensures.value ∙ c.index-tags-i.is) c.are_short.ensures);
}
