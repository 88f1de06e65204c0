use Rattle.std.proofs.Common.{[], ◌∷◌, sym, ◌∙◌, ap, subst, arith, rules, w64}
use Rattle.std.specs.Prelude.{FitsSigned}
use Rattle.std.specs.Ordering.{is_gt, is_lt}
use Rattle.df_book.specs.code.Places.{place_cmp}
use Rattle.df_book.specs.code.Trees.{EachMayRest, GoesOn, spanned}
use Rattle.df_book.proofs.AtFork.{at_fork}
use Rattle.df_book.proofs.Quantities.{none_left}
use Rattle.df_book.proofs.Walks.{each_parted, from_both, from_left, from_right, goes_further, passed, stays}
use Rattle.df_book.proofs.walk.+plan_in.Goals as goal

pub returns-then-plan-lt1 : goal.returns-then-plan-lt1
returns-then-plan-lt1 t c =
    let fits : FitsSigned w64 c.args.plan.now.left = search rules in
    stays c.args.order.now (spanned c.args.span.now.first c.args.span.now.last c.args.tree.now) c.args.plan.now (none_left c.args.plan.now.left fits c.if-plan-lt1.true)

pub plan_in-requires : goal.plan_in-requires
plan_in-requires t c =
    let g = c.deref-fork.result.now in
    let f = at_fork g c.tree.view_is c.in-Some.is c.deref-fork.ensures c.requires.by_place in
    (omega (arith, f.right_shorter, c.decreases), (f.parted.right, (each_parted g.left g.entry g.right (subst EachMayRest f.is c.requires.may_rest)).right))

pub returns-then-is_lt : goal.returns-then-is_lt
returns-then-is_lt t c =
    let g = c.deref-fork.result.now in
    let f = at_fork g c.tree.view_is c.in-Some.is c.deref-fork.ensures c.requires.by_place in
    let low = ap (λ p. is_lt (place_cmp p c.args.span.now.first)) (sym c.place-place.ensures) ∙ sym (ap is_lt c.cmp.ensures) ∙ sym c.is_lt.ensures ∙ c.if-is_lt.true in
    let all = ap (spanned c.args.span.now.first c.args.span.now.last) f.is ∙ from_right c.args.span.now.first c.args.span.now.last g.left g.entry g.right f.by_place low in
    passed c.plan_in.result c.plan_in.ensures (λ h. subst (λ es. GoesOn c.args.order.now es c.args.plan.now c.plan_in.new.plan) (sym all) h)

pub plan_in-requires-then-is_gt : goal.plan_in-requires-then-is_gt
plan_in-requires-then-is_gt t c =
    let g = c.deref-fork.result.now in
    let f = at_fork g c.tree.view_is c.in-Some.is c.deref-fork.ensures c.requires.by_place in
    (omega (arith, f.left_shorter, c.decreases), (f.parted.left, (each_parted g.left g.entry g.right (subst EachMayRest f.is c.requires.may_rest)).left))

pub returns-then-is_gt : goal.returns-then-is_gt
returns-then-is_gt t c =
    let g = c.deref-fork.result.now in
    let f = at_fork g c.tree.view_is c.in-Some.is c.deref-fork.ensures c.requires.by_place in
    let high = ap (λ p. is_gt (place_cmp p c.args.span.now.last)) (sym c.place-place.ensures) ∙ sym (ap is_gt c.cmp-2.ensures) ∙ sym c.is_gt.ensures ∙ c.if-is_gt.true in
    let all = ap (spanned c.args.span.now.first c.args.span.now.last) f.is ∙ from_left c.args.span.now.first c.args.span.now.last g.left g.entry g.right f.by_place high in
    passed c.plan_in-then-is_gt.result c.plan_in-then-is_gt.ensures (λ h. subst (λ es. GoesOn c.args.order.now es c.args.plan.now c.plan_in-then-is_gt.new.plan) (sym all) h)

pub plan_in-requires-2 : goal.plan_in-requires-2
plan_in-requires-2 t c =
    let g = c.deref-fork.result.now in
    let f = at_fork g c.tree.view_is c.in-Some.is c.deref-fork.ensures c.requires.by_place in
    (omega (arith, f.left_shorter, c.decreases), (f.parted.left, (each_parted g.left g.entry g.right (subst EachMayRest f.is c.requires.may_rest)).left))

pub trade_with-requires : goal.trade_with-requires
trade_with-requires t c =
    let g = c.deref-fork.result.now in
    let f = at_fork g c.tree.view_is c.in-Some.is c.deref-fork.ensures c.requires.by_place in
    (each_parted g.left g.entry g.right (subst EachMayRest f.is c.requires.may_rest)).here

pub plan_in-requires-3 : goal.plan_in-requires-3
plan_in-requires-3 t c =
    let g = c.deref-fork.result.now in
    let f = at_fork g c.tree.view_is c.in-Some.is c.deref-fork.ensures c.requires.by_place in
    (omega (arith, f.right_shorter, c.decreases), (f.parted.right, (each_parted g.left g.entry g.right (subst EachMayRest f.is c.requires.may_rest)).right))

pub returns : goal.returns
returns t c =
    let g = c.deref-fork.result.now in
    let f = at_fork g c.tree.view_is c.in-Some.is c.deref-fork.ensures c.requires.by_place in
    let first = c.args.span.now.first in
    let last = c.args.span.now.last in
    let low = ap (λ p. is_lt (place_cmp p first)) (sym c.place-place.ensures) ∙ sym (ap is_lt c.cmp.ensures) ∙ sym c.is_lt.ensures ∙ c.if-is_lt.false in
    let high = ap (λ p. is_gt (place_cmp p last)) (sym c.place-place.ensures) ∙ sym (ap is_gt c.cmp-2.ensures) ∙ sym c.is_gt.ensures ∙ c.if-is_gt.false in
    let all = ap (spanned first last) f.is ∙ from_both first last g.left g.entry g.right low high in
    passed c.plan_in-3.result c.plan_in-3.ensures (λ h.
    subst (λ es. GoesOn c.args.order.now es c.args.plan.now c.plan_in-3.new.plan) (sym all)
    (goes_further c.args.order.now (spanned first last g.left) (g.entry ∷ spanned first last g.right) c.args.plan.now c.plan_in-2.new.plan c.plan_in-3.new.plan c.in_ok-plan_in.ensures
    (goes_further c.args.order.now (g.entry ∷ []) (spanned first last g.right) c.plan_in-2.new.plan c.trade_with.new.plan c.plan_in-3.new.plan c.in_ok-trade_with.ensures h)))
