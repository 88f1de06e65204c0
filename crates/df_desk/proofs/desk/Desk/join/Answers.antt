use Rattle.std.proofs.Common.{ap, ◌∙◌}
use Rattle.df_desk.proofs.Passes.{seats_joined, found-begins}
use Rattle.df_desk.proofs.desk.Desk.join.Goals as goal

pub invariant_of-pass : goal.invariant_of-pass
invariant_of-pass g c = rw c.max-pass-inside.ensures (seats_joined g.V.Journaled.list _ _ _ _ _ _ _ _ _ c.pass.invariant c.other.invariant
    (ap (λ p. p.holds) c.pass.view_is ∙ c.requires.pass.1) c.unite.ensures.seat c.unite.ensures.seen)

pub returns-clause-found : goal.returns-clause-found
returns-clause-found g c = found-begins g.V.Journaled.list _ _ _ _ c.unite.new.seat.me c.pass.invariant c.unite.ensures.this ∙ ap (λ p. p.found) c.pass.view_is
