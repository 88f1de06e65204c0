use Rattle.std.proofs.Common.{◌≡◌, ◌++◌, drop}
use Rattle.df_auction.specs.Auction.{rest_from, rest_of}
use Rattle.df_auction.proofs.shown.rest.Given as goal

abbrev pub invariant-loop-place : goal.invariant-loop-place
invariant-loop-place l = l.rest.items ++ rest_from l.place l.fills (drop l.place l.orders) ≡ rest_of l.orders l.fills
