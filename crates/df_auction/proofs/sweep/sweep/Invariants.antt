use Rattle.std.proofs.Common.{◌≤◌, ◌+◌, length, drop}
use Rattle.df_auction.proofs.Sweeping.{Sweeps}
use Rattle.df_auction.proofs.sweep.sweep.Given as goal

abbrev pub invariant-loop-i : goal.invariant-loop-i
invariant-loop-i l =
    (l.i ≤ length l.bids.items) × (l.j ≤ length l.asks.items)
    × Sweeps l.orders l.fills.items l.price (drop l.i l.bids.items) (drop l.j l.asks.items)

abbrev pub decreases-loop-i : goal.decreases-loop-i
decreases-loop-i l = length (drop l.i l.bids.items) + length (drop l.j l.asks.items)
