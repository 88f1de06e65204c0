use Rattle.std.proofs.Common.{◌≡◌, ◌+◌, ◌*◌, ◌≤◌, drop}
use Rattle.df_auction.specs.Stairs.{qty_among, buys_at}
use Rattle.df_auction.proofs.market.demand.Given as goal

abbrev pub invariant-loop-order : goal.invariant-loop-order
invariant-loop-order l =
    (l.sum + qty_among (buys_at l.price) (drop l.order-index l.orders) ≡ qty_among (buys_at l.price) l.orders)
    × (l.sum ≤ 1_000_000 * l.order-index)
