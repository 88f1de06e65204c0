use Rattle.std.proofs.Common.{◌≡◌, take}
use Rattle.df_book.proofs.trade.Trades.copy.Given as goal

abbrev pub invariant-loop-trade : goal.invariant-loop-trade
invariant-loop-trade l = l.trades.items ≡ take l.trade-index l.trade-items
