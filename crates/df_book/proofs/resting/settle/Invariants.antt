use Rattle.std.proofs.Common.{◌≡◌, drop, not, string_bytes}
use Rattle.df_book.specs.code.Places.{by_arrival, IsInOrder, AreFills, filled}
use Rattle.df_book.specs.code.Trees.{IsByPlace}
use Rattle.df_book.proofs.resting.settle.Given as goal

abbrev pub invariant-loop-fill : goal.invariant-loop-fill
invariant-loop-fill l =
    (filled (drop l.fill-index l.fills) (by_arrival l.left) ≡ filled l.fills (by_arrival l.orders))
    × IsInOrder 0 18_446_744_073_709_551_615 (by_arrival l.left)
    × AreFills l.order (drop l.fill-index l.fills) (by_arrival l.left)
    × (string_bytes l.place.symbol ≡ l.order.symbol)
    × (l.place.sell ≡ not l.order.sell)
    × IsByPlace l.left
