use Rattle.std.proofs.Common.{◌≡◌, ◌++◌, drop, string_bytes}
use Rattle.std.specs.List.{flat_map}
use Rattle.df_auction.specs.AuctionText.{trade_line}
use Rattle.df_auction.proofs.text.append_trades.Given as goal

abbrev pub invariant-loop-trade : goal.invariant-loop-trade
invariant-loop-trade l = string_bytes l.text ++ flat_map trade_line (drop l.trade-index l.trades) ≡ string_bytes l.fn.text ++ flat_map trade_line l.trades
