use Rattle.std.proofs.Common.{◌≡◌, Some, None, reverse, subst}
use Rattle.std.specs.Prelude.{Option}
use Rattle.df_local.specs.code.LocalState.{LocalState}
use Rattle.df_machine.specs.Journal.{State, local_of}
use Rattle.df_machine.proofs.Units.{local_at}
use Rattle.df_machine.proofs.machine.Core.local.Goals as goal

pub returns-in-Some : goal.returns-in-Some
returns-in-Some c =
    subst (λ (v : State). Some c.in-Some.unit.now.local ≡ local_of v c.args.name.now) c.self.view_is
    (local_at c.self.inside.start (reverse c.self.inside.journal.items) c.self.inside.tables.board c.self.invariant.board c.self.invariant.tells c.args.name.now (Some c.in-Some.unit.now) c.in-Some.ensures)

pub returns-in-None : goal.returns-in-None
returns-in-None c =
    subst (λ (v : State). let none : Option LocalState = None in none ≡ local_of v c.args.name.now) c.self.view_is
    (local_at c.self.inside.start (reverse c.self.inside.journal.items) c.self.inside.tables.board c.self.invariant.board c.self.invariant.tells c.args.name.now None c.in-None.ensures)
