use Rattle.std.proofs.Common.{rules, ◌∙◌, w64, arith}
use Rattle.std.specs.Prelude.{FitsSigned}
use Rattle.std.proofs.lemmas.Int.{to_z-of_z}
use Rattle.df_book.specs.code.Trees.{spanned}
use Rattle.df_book.proofs.Spans.{spans}
use Rattle.df_book.proofs.Walks.{begins, each_may_rest}
use Rattle.df_book.proofs.resting.plan.Goals as goal

pub plan_in-requires-clause-may_rest : goal.plan_in-requires-clause-may_rest
plan_in-requires-clause-may_rest c = each_may_rest _ 0 c.args.orders.now c.requires.in_order

pub returns : goal.returns
returns c =
    let fits : FitsSigned w64 c.args.order.now.qty = search rules in
    let found = spans c.args.order.now c.args.span.now.first c.args.span.now.last _ c.args.orders.now c.requires.span c.requires.by_place (omega arith) c.requires.in_order in
    begins c.args.order.now c.args.order.now.qty (spanned c.args.span.now.first c.args.span.now.last c.args.orders.now) _ c.new-plan.result c.plan_in.new.plan
    c.new-plan.ensures.trades c.new-plan.ensures.fills (c.new-plan.ensures.left ∙ to_z-of_z w64 c.args.order.now.qty fits) found c.in_ok-plan_in.ensures
