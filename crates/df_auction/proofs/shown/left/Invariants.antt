use Rattle.std.proofs.Common.{◌≡◌, ℕ, ◌+◌, drop, length, get_or, true}
use Rattle.df_auction.specs.Matching.{bought, sold, qty_at}
use Rattle.df_auction.proofs.shown.left.Given as goal

abbrev pub invariant-loop-fill : goal.invariant-loop-fill
invariant-loop-fill l =
    (length l.left.items ≡ length l.orders)
    × ((k : ℕ) → get_or l.left.items k 0 + (bought k l.fills + sold k l.fills)
    ≡ qty_at (λ o. true) l.orders k + (bought k (drop l.fill-index l.fills) + sold k (drop l.fill-index l.fills)))
