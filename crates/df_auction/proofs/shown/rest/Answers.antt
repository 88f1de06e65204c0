use Rattle.std.proofs.Common.{◌<◌, length, ap, ◌∙◌, rules}
use Rattle.df_auction.proofs.Resting.{rest_more, rest_same}
use Rattle.df_auction.proofs.shown.rest.Goals as goal
use Rattle.df_auction.proofs.shown.rest.Goals.{then-qty-gt0+in_ok-with_qty+in_ok-push, else-qty-gt0}

pub loop-place-preserved : goal.loop-place-preserved
loop-place-preserved c =
    let inside : c.loop-place.place < length c.in_ok-left.left.items = search rules in
    elim c.if-qty-gt0.branch [
      | then-qty-gt0+in_ok-with_qty+in_ok-push w ↦ rest_more c.args.orders.now c.args.fills.now c.in_ok-left.left.items c.loop-place.place c.index-qty.result.now c.index-orders-place.result
          c.in_ok-left.ensures.left c.loop-place-test.true c.index-orders-place.is c.index-qty.ensures c.loop-place.rest.items c.if-qty-gt0.rest.items w.in_ok-with_qty.field-0 inside c.loop-place.invariant w.if-qty-gt0.true w.in_ok-with_qty.ensures (ap (λ v. v.items) w.rest-is ∙ w.in_ok-push.ensures.items)
      | else-qty-gt0 w ↦ rest_same c.args.orders.now c.args.fills.now c.in_ok-left.left.items c.loop-place.place c.index-qty.result.now c.index-orders-place.result
          c.in_ok-left.ensures.left c.loop-place-test.true c.index-orders-place.is c.index-qty.ensures c.loop-place.rest.items c.if-qty-gt0.rest.items inside c.loop-place.invariant w.if-qty-gt0.false (ap (λ v. v.items) w.rest-is)
    ]
