use Rattle.df_lint.proofs.Names.{◌≡◌, List, take, ap, ◌∙◌, list_any, take_all, tag_eq, contains, Privilege}
use Rattle.std.specs.Prelude.{◌||◌}
use Rattle.df_lint.proofs.Steps.{tag_more, tags_joined}
use Rattle.df_lint.proofs.tags.with_root.Goals as goal

pub loop-p-preserved : goal.loop-p-preserved
loop-p-preserved c = tag_more c.loop-p.all c.in_ok-all-2.all c.in_ok-all.all c.as_slice-p-items.result.now c.loop-p.p-index c.p-item.result c.loop-p-test.true c.p-item.is c.in_ok-all-2.ensures c.loop-p.invariant

pub returns : goal.returns
returns c =
    let items = c.as_slice-p-items.result.now in
    let whole : take c.loop-p.p-index items ≡ c.args.root.now.privileges = take_all c.loop-p.p-index items c.loop-p-test.false ∙ c.as_slice-p-items.ensures.value in
    tags_joined c.args.tags.now c.in_ok-union.field-0 c.in_ok-all.all c.loop-p.all c.args.root.now.label.s c.args.root.now.label.i c.args.root.now.privileges c.in_ok-union.ensures c.in_ok-all.ensures
    (λ t. c.loop-p.invariant t ∙ ap (λ (ps : List Privilege). contains c.in_ok-all.all t || list_any (λ p. tag_eq p.tag t) ps) whole)
