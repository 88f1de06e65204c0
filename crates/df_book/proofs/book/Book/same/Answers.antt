use Rattle.std.proofs.Common.{rules, ◌<◌, ◌^◌, arith}
use Rattle.df_book.specs.code.Places.{by_arrival}
use Rattle.df_book.proofs.Arrivals.{raised}
use Rattle.df_book.proofs.book.Book.same.Goals as goal

pub same_in_order-requires-clause-a_in_order : goal.same_in_order-requires-clause-a_in_order
same_in_order-requires-clause-a_in_order c =
    let fits : c.self.inside.arrivals < 2 ^ 64 = search rules in raised 0 c.self.inside.arrivals _ (by_arrival c.self.inside.orders) (omega arith) c.self.invariant.1

pub same_in_order-requires-clause-b_in_order : goal.same_in_order-requires-clause-b_in_order
same_in_order-requires-clause-b_in_order c =
    let fits : c.other.inside.arrivals < 2 ^ 64 = search rules in raised 0 c.other.inside.arrivals _ (by_arrival c.other.inside.orders) (omega arith) c.other.invariant.1
