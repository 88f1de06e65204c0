use Rattle.std.proofs.Common.{◌≡◌, ◌≤◌, ◌<◌, ◌-◌, ℕ, length, get_or}
use Rattle.df_book.specs.declared.order.Order.{Order}
use Rattle.df_auction.proofs.text.run_end.Given as goal

abbrev pub invariant-loop-end : goal.invariant-loop-end
invariant-loop-end l = (l.i < l.end) × (l.end ≤ length l.orders)
    × ((k : ℕ) (d : Order) → l.i ≤ k → k < l.end → (get_or l.orders k d).symbol ≡ (get_or l.orders l.i d).symbol)

abbrev pub decreases-loop-end : goal.decreases-loop-end
decreases-loop-end l = length l.orders - l.end
