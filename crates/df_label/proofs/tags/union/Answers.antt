use Rattle.std.proofs.Common.{◌≡◌, [], ◌++◌, sym, ap, ◌∙◌}
use Rattle.std.proofs.lemmas.List.{nil_from_length}
use Rattle.df_label.specs.Tag.{tag_cmp}
use Rattle.df_label.specs.TagSet.{union}
use Rattle.df_label.proofs.SetFacts.{ascending-tail, written_more}
use Rattle.df_label.proofs.TagSetFacts.{tag_cmp_exact}
use Rattle.df_label.proofs.Walks.{union_less, union_equal, union_greater, union-nil}
use Rattle.df_label.proofs.tags.union.Goals as goal

pub loop-t-preserved-in-Less : goal.loop-t-preserved-in-Less
loop-t-preserved-in-Less c =
    let l = c.in-Some.ensures.cases.0 in
    let r = c.in-Some-split_first.ensures.cases.0 in
    record {
      same = written_more _ _ _ _ _ _ _ c.in_ok-push-in-Less.ensures.items c.in_ok-copy-in-Less.ensures (union_less _ _ _ _ _ _ l r (sym c.in-Less.ensures) c.loop-t.invariant.right) c.loop-t.invariant.same;
      left = ascending-tail tag_cmp tag_cmp_exact _ _ _ l c.loop-t.invariant.left;
      right = c.loop-t.invariant.right;
    }

pub loop-t-preserved-in-Equal : goal.loop-t-preserved-in-Equal
loop-t-preserved-in-Equal c =
    let l = c.in-Some.ensures.cases.0 in
    let r = c.in-Some-split_first.ensures.cases.0 in
    record {
      same = written_more _ _ _ _ _ _ _ c.in_ok-push-in-Equal.ensures.items c.in_ok-copy-in-Equal.ensures (union_equal _ _ _ _ _ _ l r (sym c.in-Equal.ensures) c.loop-t.invariant.right) c.loop-t.invariant.same;
      left = ascending-tail tag_cmp tag_cmp_exact _ _ _ l c.loop-t.invariant.left;
      right = ascending-tail tag_cmp tag_cmp_exact _ _ _ r c.loop-t.invariant.right;
    }

pub loop-t-preserved : goal.loop-t-preserved
loop-t-preserved c =
    let l = c.in-Some.ensures.cases.0 in
    let r = c.in-Some-split_first.ensures.cases.0 in
    record {
      same = written_more _ _ _ _ _ _ _ c.in_ok-push-in-Greater.ensures.items c.in_ok-copy-in-Greater.ensures (union_greater _ _ _ _ _ _ l r (sym c.in-Greater.ensures) c.loop-t.invariant.right) c.loop-t.invariant.same;
      left = c.loop-t.invariant.left;
      right = ascending-tail tag_cmp tag_cmp_exact _ _ _ r c.loop-t.invariant.right;
    }

pub returns : goal.returns
returns c =
    let none : c.loop-t.left.now ≡ [] = nil_from_length c.loop-t.left.now c.in_default.ensures.cases in
    let rest : union c.loop-t.left.now c.loop-t.right.now ≡ c.loop-t.right.now = ap (λ l. union l c.loop-t.right.now) none ∙ union-nil c.loop-t.right.now c.loop-t.invariant.right in
    c.in_ok-push_copies.ensures ∙ ap (λ l. c.loop-t.all.items ++ l) (sym rest) ∙ c.loop-t.invariant.same
