use Rattle.std.proofs.Common.{ap, sym, subst, ◌∙◌}
use Rattle.std.specs.Map.{values_of}
use Rattle.df_book.specs.code.Places.{by_arrival, IsInOrder}
use Rattle.df_book.specs.code.Trees.{IsByPlace}
use Rattle.df_book.proofs.book.Book.copy.Goals as goal

pub invariant_of-result : goal.invariant_of-result
invariant_of-result c = (
  subst IsByPlace (sym c.in_ok-share.ensures) c.self.invariant.0,
  subst (λ es. IsInOrder 0 c.self.inside.arrivals (by_arrival es)) (sym c.in_ok-share.ensures) c.self.invariant.1,
)

pub returns : goal.returns
returns c = ap (λ es. values_of (by_arrival es)) c.in_ok-share.ensures ∙ c.self.view_is
