use Rattle.std.proofs.Common.{◌≡◌, false, not, reverse, ap, sym, subst, ◌∙◌}
use Rattle.df_machine.specs.Journal.{State, has_delivery_in}
use Rattle.df_machine.proofs.Units.{due_at, due_none}
use Rattle.df_machine.proofs.machine.Core.has_delivery.Goals as goal

pub returns-in-Some : goal.returns-in-Some
returns-in-Some c =
    subst (λ (v : State). not c.is_empty.result ≡ has_delivery_in v c.args.name.now) c.self.view_is
    (ap not c.is_empty.ensures ∙ due_at c.self.inside.start (reverse c.self.inside.journal.items) c.self.inside.tables.board c.self.invariant.board c.self.invariant.tells c.args.name.now c.in-Some.unit.now (sym c.in-Some.ensures))

pub returns-in-None : goal.returns-in-None
returns-in-None c =
    subst (λ (v : State). false ≡ has_delivery_in v c.args.name.now) c.self.view_is
    (due_none c.self.inside.start (reverse c.self.inside.journal.items) c.self.inside.tables.board c.self.invariant.board c.self.invariant.tells c.args.name.now (sym c.in-None.ensures))
