use Rattle.std.proofs.Common.{rules, ◌≡◌, ◌+◌, ◌∷◌, suc, refl, ap, sym, subst, ◌∙◌, drop, slice_index_or, w64, to_z, of_z, pos, arith}
use Rattle.std.specs.Prelude.{FitsSigned}
use Rattle.std.proofs.Math.Seq.{drop-cons}
use Rattle.std.proofs.lemmas.Int.{to_z-of_z}
use Rattle.std.proofs.lemmas.List.{drop_all}
use Rattle.df_book.specs.code.Places.{by_arrival, IsInOrder, AreFills, filled, left_at}
use Rattle.df_book.specs.code.Trees.{IsByPlace}
use Rattle.df_book.proofs.Arrivals.{left_in_order}
use Rattle.df_book.proofs.Planned.{next_fill}
use Rattle.df_book.proofs.Settling.{place_taken}
use Rattle.df_book.proofs.resting.settle.Goals as goal

pub loop-fill-init : goal.loop-fill-init
loop-fill-init c =
    let same = c.in_ok-left.ensures in (
      ap (λ es. filled c.args.fills.now (by_arrival es)) same,
      subst (λ es. IsInOrder 0 18_446_744_073_709_551_615 (by_arrival es)) (sym same) c.requires.in_order,
      subst (λ es. AreFills c.args.order.now c.args.fills.now (by_arrival es)) (sym same) c.requires.fills,
      c.requires.symbol,
      c.requires.sell,
      subst IsByPlace (sym same) c.requires.by_place,
    )

pub leave-requires-clause-in_order : goal.leave-requires-clause-in_order
leave-requires-clause-in_order c = c.loop-fill.invariant.1

pub leave-requires-clause-taken : goal.leave-requires-clause-taken
leave-requires-clause-taken c =
    let f = slice_index_or c.args.fills.now c.loop-fill.fill-index (record { rank = pos 0; arrival = 0; left = pos 0 }) in
    let fits : FitsSigned w64 f.rank = search rules in
    let next = drop-cons c.args.fills.now c.loop-fill.fill-index (record { rank = pos 0; arrival = 0; left = pos 0 }) c.loop-fill-test.true in
    place_taken c.args.order.now 18_446_744_073_709_551_615 f (drop (suc c.loop-fill.fill-index) c.args.fills.now) c.loop-fill.left
    (record { symbol = c.loop-fill.place.symbol; sell = c.loop-fill.place.sell; rank = to_z w64 (of_z w64 f.rank); arrival = f.arrival }) c.loop-fill.invariant.1
    (subst (λ fs. AreFills c.args.order.now fs (by_arrival c.loop-fill.left)) next c.loop-fill.invariant.2) c.loop-fill.invariant.3 c.loop-fill.invariant.4 (to_z-of_z w64 f.rank fits) refl

pub loop-fill-preserved : goal.loop-fill-preserved
loop-fill-preserved c =
    let f = slice_index_or c.args.fills.now c.loop-fill.fill-index (record { rank = pos 0; arrival = 0; left = pos 0 }) in
    let fits : FitsSigned w64 f.left = search rules in
    let next = drop-cons c.args.fills.now c.loop-fill.fill-index (record { rank = pos 0; arrival = 0; left = pos 0 }) c.loop-fill-test.true in
    let one : suc c.loop-fill.fill-index ≡ c.loop-fill.fill-index + 1 = omega arith in
    let left = c.in_ok-left-2.ensures.left ∙ ap (λ z. left_at f.arrival z (by_arrival c.loop-fill.left)) (to_z-of_z w64 f.left fits) in
    let n =
    next_fill c.args.order.now 18_446_744_073_709_551_615 f (drop (suc c.loop-fill.fill-index) c.args.fills.now) (by_arrival c.loop-fill.left) c.loop-fill.invariant.1
    (subst (λ fs. AreFills c.args.order.now fs (by_arrival c.loop-fill.left)) next c.loop-fill.invariant.2)
    in (
      ap (filled (drop (c.loop-fill.fill-index + 1) c.args.fills.now)) left ∙ sym (ap (λ fs. filled fs (by_arrival c.loop-fill.left)) (next ∙ ap (λ k. f ∷ drop k c.args.fills.now) one)) ∙ c.loop-fill.invariant.0,
      subst (IsInOrder 0 18_446_744_073_709_551_615) (sym left) (left_in_order 0 18_446_744_073_709_551_615 f.arrival f.left (by_arrival c.loop-fill.left) c.loop-fill.invariant.1),
      subst (AreFills c.args.order.now (drop (c.loop-fill.fill-index + 1) c.args.fills.now)) (sym left) (subst (λ k. AreFills c.args.order.now (drop k c.args.fills.now) (left_at f.arrival f.left (by_arrival c.loop-fill.left))) one n.others),
      c.loop-fill.invariant.3,
      c.loop-fill.invariant.4,
      c.in_ok-left-2.ensures.by_place,
    )

pub returns-clause-filled : goal.returns-clause-filled
returns-clause-filled c =
    let all = drop_all c.loop-fill.fill-index c.args.fills.now (let n = c.loop-fill-test.false in omega arith) in
    sym (ap (λ fs. filled fs (by_arrival c.loop-fill.left)) all) ∙ c.loop-fill.invariant.0

pub leave-requires-clause-by_place : goal.leave-requires-clause-by_place
leave-requires-clause-by_place c = c.loop-fill.invariant.5

pub returns-clause-by_place : goal.returns-clause-by_place
returns-clause-by_place c = c.loop-fill.invariant.5
