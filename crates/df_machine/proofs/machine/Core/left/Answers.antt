use Rattle.std.proofs.Common.{◌≡◌, reverse, sym, subst, ◌∙◌}
use Rattle.df_machine.specs.Journal.{State, left_in}
use Rattle.df_machine.proofs.Units.{left_at, left_none}
use Rattle.df_machine.proofs.machine.Core.left.Goals as goal

pub returns-in-Some : goal.returns-in-Some
returns-in-Some c =
    subst (λ (v : State). c.len.result ≡ left_in v c.args.name.now) c.self.view_is
    (c.len.ensures ∙ left_at c.self.inside.start (reverse c.self.inside.journal.items) c.self.inside.tables.board c.self.invariant.board c.self.invariant.tells c.args.name.now c.in-Some.unit.now (sym c.in-Some.ensures))

pub returns-in-None : goal.returns-in-None
returns-in-None c =
    subst (λ (v : State). 0 ≡ left_in v c.args.name.now) c.self.view_is
    (left_none c.self.inside.start (reverse c.self.inside.journal.items) c.self.inside.tables.board c.self.invariant.board c.self.invariant.tells c.args.name.now (sym c.in-None.ensures))
