use Rattle.std.proofs.Common.{◌≡◌, ◌++◌, drop}
use Rattle.df_auction.specs.Stairs.{is_on}
use Rattle.df_auction.specs.Ranking.{lots}
use Rattle.df_auction.proofs.lot.lots.Given as goal

abbrev pub invariant-loop-place : goal.invariant-loop-place
invariant-loop-place l = l.lots.items ++ lots (is_on l.sell) l.place (drop l.place l.orders) ≡ lots (is_on l.sell) 0 l.orders
