use Rattle.std.proofs.Common.{length}
use Rattle.df_book.specs.code.Earliest.{since}
use Rattle.df_book.specs.code.Places.{by_arrival}
use Rattle.df_book.proofs.Sooner.{Remaining}
use Rattle.df_book.proofs.compare.same_in_order.Given as goal

abbrev pub invariant-loop-place : goal.invariant-loop-place
invariant-loop-place l = Remaining l.a_from l.b_from (by_arrival l.a) (by_arrival l.b)

abbrev pub decreases-loop-place : goal.decreases-loop-place
decreases-loop-place l = length (since l.a_from (by_arrival l.a))
