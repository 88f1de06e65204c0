use Rattle.std.proofs.Common.{◌≡◌, take}
use Rattle.df_book.proofs.order.Orders.copy.Given as goal

abbrev pub invariant-loop-order : goal.invariant-loop-order
invariant-loop-order l = l.orders.items ≡ take l.order-index l.order-items
