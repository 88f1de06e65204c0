use Rattle.std.proofs.Common.{rules, ◌++◌, ◌∷◌, [], ◌+◌, ap, sym, subst, ◌∙◌, cond, w64, arith}
use Rattle.std.specs.Prelude.{FitsSigned}
use Rattle.std.proofs.lemmas.Int.{ints, to_z-of_z}
use Rattle.df_book.specs.code.Places.{by_arrival, IsInOrder, MayRest}
use Rattle.df_book.specs.code.Trees.{IsByPlace}
use Rattle.df_book.proofs.Arrivals.{appended}
use Rattle.df_book.proofs.ByPlace.{put_by_place}
use Rattle.df_book.proofs.Quantities.{some_left}
use Rattle.df_book.proofs.Standing.{came, placed}
use Rattle.df_book.proofs.resting.rest.Goals as goal

pub returns-clause-rests : goal.returns-clause-rests
returns-clause-rests c =
    let id : FitsSigned w64 c.args.order.now.id = search rules in
    let p = c.in_ok-place.ensures in
    let placed = placed c.args.order.now c.in_ok-place.place _ c.args.left p.symbol p.sell p.rank (to_z-of_z w64 c.args.order.now.id id) (to_z-of_z w64 c.args.left c.ranges.left) (search rules) in
    came c.args.order.now c.in_ok-place.place _ c.args.left c.args.arrivals c.args.orders _ c.in_ok-entry.entry c.in_ok-orders.ensures c.in_ok-entry.ensures c.requires.in_order p.arrival placed
    ∙ sym (ap (λ b. by_arrival c.args.orders ++ cond b ((c.args.arrivals, record c.args.order.now { qty = c.args.left }) ∷ []) []) (some_left c.args.left c.ranges.left c.if-left-lt1.false))

pub returns-clause-by_place : goal.returns-clause-by_place
returns-clause-by_place c =
    subst IsByPlace (sym c.in_ok-orders.ensures) (put_by_place c.in_ok-entry.entry.0 c.in_ok-entry.entry.1 c.args.orders c.requires.by_place)

pub returns-clause-in_order : goal.returns-clause-in_order
returns-clause-in_order c =
    let some = some_left c.args.left c.ranges.left c.if-left-lt1.false in
    let may : MayRest (record c.args.order.now { qty = c.args.left }) = record { qty = grind (arith, ints); limit = c.requires.may_rest.limit; limit_fits = c.requires.may_rest.limit_fits } in
    let after = appended 0 c.args.arrivals (record c.args.order.now { qty = c.args.left }) (by_arrival c.args.orders) (omega arith) c.requires.in_order may in
    let id : FitsSigned w64 c.args.order.now.id = search rules in
    let p = c.in_ok-place.ensures in
    let placed = placed c.args.order.now c.in_ok-place.place _ c.args.left p.symbol p.sell p.rank (to_z-of_z w64 c.args.order.now.id id) (to_z-of_z w64 c.args.left c.ranges.left) (search rules) in
    let came = came c.args.order.now c.in_ok-place.place _ c.args.left c.args.arrivals c.args.orders _ c.in_ok-entry.entry c.in_ok-orders.ensures c.in_ok-entry.ensures c.requires.in_order p.arrival placed in
    subst (IsInOrder 0 (c.args.arrivals + 1)) (sym came) after
