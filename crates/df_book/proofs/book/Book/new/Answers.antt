use Rattle.std.proofs.Common.{sym, subst}
use Rattle.df_book.specs.code.Places.{by_arrival, IsInOrder}
use Rattle.df_book.specs.code.Trees.{IsByPlace}
use Rattle.df_book.proofs.ByPlace.{no_entries}
use Rattle.df_book.proofs.book.Book.new.Goals as goal

pub invariant_of-result : goal.invariant_of-result
invariant_of-result c = (subst IsByPlace (sym c.new.ensures) no_entries, subst (λ es. IsInOrder 0 0 (by_arrival es)) (sym c.new.ensures) tt)
