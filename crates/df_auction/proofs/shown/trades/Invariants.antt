use Rattle.std.proofs.Common.{◌≡◌, map, take}
use Rattle.df_auction.specs.Auction.{trade_of}
use Rattle.df_auction.proofs.shown.trades.Given as goal

abbrev pub invariant-loop-fill : goal.invariant-loop-fill
invariant-loop-fill l = l.trades.items ≡ map (trade_of l.orders l.price) (take l.fill-index l.fills)
