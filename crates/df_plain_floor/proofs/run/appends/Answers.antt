use Rattle.df_plain_floor.proofs.Names.{ℕ, not, ap, ◌∙◌, length, nat_eq, brain_of}
use Rattle.df_plain_floor.proofs.Passing.{appending}
use Rattle.df_plain_floor.proofs.run.appends.Goals as goal

pub returns-clause-appending : goal.returns-clause-appending
returns-clause-appending g c =
    appending (brain_of g.B.StepFunction.next g.B.StepFunction.instance) c.args.max c.args.crew.now c.take_turn.new.crew c.in_ok-take_turn.ensures.turns
    (not (nat_eq c.entries.result c.entries-before.result))
    (ap (λ (m : ℕ). not (nat_eq m c.entries-before.result)) c.entries.ensures
    ∙ ap (λ (m : ℕ). not (nat_eq (length c.take_turn.new.crew.core.1) m)) c.entries-before.ensures)
