use Rattle.std.proofs.Common.{arith}
use Rattle.df_auction.specs.Stairs.{buys_at}
use Rattle.df_auction.proofs.Sides.{among-drop, among-none}
use Rattle.df_auction.proofs.market.demand.Goals as goal

pub overflow_add-sum : goal.overflow_add-sum
overflow_add-sum c = omega (arith, c.asked-sum.ensures.small)

pub loop-order-preserved : goal.loop-order-preserved
loop-order-preserved c =
    let d = among-drop (buys_at c.args.price) c.args.orders.now c.loop-order.order-index c.order-item.result c.loop-order-test.true c.order-item.is in
    (omega (arith, d, c.asked-sum.ensures.value, c.loop-order.invariant.0), omega (arith, c.asked-sum.ensures.small))

pub returns : goal.returns
returns c = omega (arith, among-none (buys_at c.args.price) c.args.orders.now c.loop-order.order-index c.loop-order-test.false, c.loop-order.invariant.0)
