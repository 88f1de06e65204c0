use Rattle.std.proofs.Common.{sym, ◌∙◌}
use Rattle.df_label.specs.Tag.{tag_cmp}
use Rattle.df_label.proofs.SetFacts.{ascending-tail}
use Rattle.df_label.proofs.TagSetFacts.{tag_cmp_exact}
use Rattle.df_label.proofs.Walks.{missing_less, missing_equal, missing_greater}
use Rattle.df_label.proofs.tags.first_missing.Goals as goal

pub returns-in-Less : goal.returns-in-Less
returns-in-Less c =
    sym (missing_less _ _ _ _ _ _ c.in-Some-split_first.ensures.cases.0 c.in-Some.ensures.cases.0 (sym c.in-Less.ensures) c.loop-t.invariant.left) ∙ c.loop-t.invariant.same

pub loop-t-preserved-in-Equal : goal.loop-t-preserved-in-Equal
loop-t-preserved-in-Equal c =
    let l = c.in-Some-split_first.ensures.cases.0 in
    let r = c.in-Some.ensures.cases.0 in
    record {
      same = sym (missing_equal _ _ _ _ _ _ l r (sym c.in-Equal.ensures) c.loop-t.invariant.rest) ∙ c.loop-t.invariant.same;
      left = ascending-tail tag_cmp tag_cmp_exact _ _ _ l c.loop-t.invariant.left;
      rest = ascending-tail tag_cmp tag_cmp_exact _ _ _ r c.loop-t.invariant.rest;
    }

pub loop-t-preserved : goal.loop-t-preserved
loop-t-preserved c =
    let l = c.in-Some-split_first.ensures.cases.0 in
    let r = c.in-Some.ensures.cases.0 in
    record {
      same = sym (missing_greater _ _ _ _ _ _ l r (sym c.in-Greater.ensures) c.loop-t.invariant.rest) ∙ c.loop-t.invariant.same;
      left = ascending-tail tag_cmp tag_cmp_exact _ _ _ l c.loop-t.invariant.left;
      rest = c.loop-t.invariant.rest;
    }
