use Rattle.std.proofs.Common.{rules, ◌++◌, ◌<◌, ◌^◌, w64, ap, sym, subst, ◌∙◌, arith}
use Rattle.std.specs.Prelude.{FitsSigned}
use Rattle.std.specs.Map.{values_of}
use Rattle.std.proofs.lemmas.Int.{to_z-of_z}
use Rattle.df_book.specs.Submitting.{submitted}
use Rattle.df_book.specs.code.Places.{by_arrival, IsInOrder, filled, resting_of}
use Rattle.df_book.proofs.Arrivals.{raised}
use Rattle.df_book.proofs.Planned.{filled_in_order, filled_more, does}
use Rattle.df_book.proofs.book.Book.submit.Goals as goal

pub plan-requires-clause-in_order : goal.plan-requires-clause-in_order
plan-requires-clause-in_order c =
    let fits : c.self.inside.arrivals < 2 ^ 64 = search rules in raised 0 c.self.inside.arrivals _ (by_arrival c.self.inside.orders) (omega arith) c.self.invariant.1

pub settle-requires-clause-in_order : goal.settle-requires-clause-in_order
settle-requires-clause-in_order c =
    let fits : c.self.inside.arrivals < 2 ^ 64 = search rules in raised 0 c.self.inside.arrivals _ (by_arrival c.self.inside.orders) (omega arith) c.self.invariant.1

pub settle-requires-clause-fills : goal.settle-requires-clause-fills
settle-requires-clause-fills c = (c.args.order.qty, c.as_slice.ensures.value ∙ c.in_ok-plan.ensures.fills)

pub rest-requires-clause-in_order : goal.rest-requires-clause-in_order
rest-requires-clause-in_order c =
    subst (IsInOrder 0 c.self.inside.arrivals) (sym c.in_ok-orders.ensures.filled)
    (filled_in_order c.self.inside.arrivals c.as_slice.result.now (by_arrival c.self.inside.orders) c.self.invariant.1)

pub returns-clause-trades : goal.returns-clause-trades
returns-clause-trades c =
    (does c.args.order c.self.inside.arrivals c.self.inside.arrivals (by_arrival c.self.inside.orders) c.in_ok-plan.plan c.self.invariant.1 c.in_ok-plan.ensures).trades
    ∙ ap (λ book. (submitted c.args.order book).trades) c.self.view_is

pub returns-clause-rests : goal.returns-clause-rests
returns-clause-rests c =
    let xs = by_arrival c.self.inside.orders in
    let p = c.in_ok-plan.plan in
    let fits : FitsSigned w64 p.left = search rules in
    let rests = c.in_ok-arrived.ensures.rests ∙ ap (λ z. by_arrival c.in_ok-orders.orders ++ resting_of c.self.inside.arrivals z c.args.order) (to_z-of_z w64 p.left fits) in
    let settled = c.in_ok-orders.ensures.filled ∙ ap (λ fs. filled fs xs) c.as_slice.ensures.value in
    let more = filled_more c.args.order c.self.inside.arrivals p.fills.items xs (resting_of c.self.inside.arrivals p.left c.args.order) c.self.invariant.1 (c.args.order.qty, c.in_ok-plan.ensures.fills) in
    ap values_of (rests ∙ ap (λ ys. ys ++ resting_of c.self.inside.arrivals p.left c.args.order) settled ∙ sym more)
    ∙ (does c.args.order c.self.inside.arrivals c.self.inside.arrivals xs p c.self.invariant.1 c.in_ok-plan.ensures).resting
    ∙ ap (λ book. (submitted c.args.order book).resting) c.self.view_is
