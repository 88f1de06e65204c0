use Rattle.std.proofs.Common.{◌≡◌, map, take}
use Rattle.df_auction.specs.Stairs.{qty_of}
use Rattle.df_auction.proofs.shown.quantities.Given as goal

abbrev pub invariant-loop-order : goal.invariant-loop-order
invariant-loop-order l = l.quantities.items ≡ map qty_of (take l.order-index l.orders)
