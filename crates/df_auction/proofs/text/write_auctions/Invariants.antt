use Rattle.std.proofs.Common.{◌≤◌, ◌-◌, ◌++◌, ℕ, List, length, drop, string_bytes}
use Rattle.df_auction.specs.AuctionText.{AreLines}
use Rattle.df_auction.proofs.text.write_auctions.Given as goal

abbrev pub invariant-loop-i : goal.invariant-loop-i
invariant-loop-i l = (l.i ≤ length l.orders.items)
    × ((more : List ℕ) → AreLines (drop l.i l.orders.items) more → AreLines l.orders.items (string_bytes l.text ++ more))

abbrev pub decreases-loop-i : goal.decreases-loop-i
decreases-loop-i l = length l.orders.items - l.i
