use Rattle.std.proofs.Common.{◌≡◌, ◌+◌, ◌*◌, ◌≤◌, drop}
use Rattle.df_auction.specs.Stairs.{qty_among, sells_at}
use Rattle.df_auction.proofs.market.supply.Given as goal

abbrev pub invariant-loop-order : goal.invariant-loop-order
invariant-loop-order l =
    (l.sum + qty_among (sells_at l.price) (drop l.order-index l.orders) ≡ qty_among (sells_at l.price) l.orders)
    × (l.sum ≤ 1_000_000 * l.order-index)
