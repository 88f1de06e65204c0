use Rattle.std.proofs.Common.{sym, ◌∙◌, ap, ap₂}
use Rattle.df_book.specs.code.Earliest.{due, earliest, shown, sooner}
use Rattle.df_book.specs.code.Nodes.{entries_at, entries_of}
use Rattle.df_book.proofs.Sooner.{soonest_at}
use Rattle.df_book.proofs.compare.+soonest.Goals as goal

pub returns : goal.returns
returns t c =
    let g = c.deref-fork.result.now in
    let is = sym c.orders.view_is ∙ ap entries_of c.in-Some.is ∙ ap entries_at (sym c.deref-fork.ensures) in
    c.soonest.ensures
    ∙ ap (λ b. sooner b (earliest c.args.from g.right))
    (c.sooner-here.ensures ∙ ap₂ (λ b e. sooner b (due c.args.from e)) c.soonest-left.ensures (ap₂ (λ p r. (p, r)) c.place.ensures c.rest.ensures))
    ∙ soonest_at (shown c.args.best) c.args.from g.left g.entry g.right ∙ sym (ap (λ es. sooner (shown c.args.best) (earliest c.args.from es)) is)
