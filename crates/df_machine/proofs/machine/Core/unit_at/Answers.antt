use Rattle.std.proofs.Common.{List, reverse, ap, subst, ◌∙◌}
use Rattle.std.specs.Prelude.{slice_get}
use Rattle.df_roll.specs.Roll.{names_in}
use Rattle.df_unit.specs.declared.name.UnitName.{UnitName}
use Rattle.df_machine.specs.Journal.{IsRoll, State}
use Rattle.df_machine.proofs.Units.{roll_is, roll_of}
use Rattle.df_machine.proofs.machine.Core.unit_at.Goals as goal

pub returns-clause-place : goal.returns-clause-place
returns-clause-place c names roll =
    let within = rw (← c.self.view_is) at roll in
    c.name_at.ensures.name
    ∙ ap (λ (ns : List UnitName). slice_get ns c.args.k) (roll_is c.self.inside.start (reverse c.self.inside.journal.items) c.self.inside.tables.board c.self.invariant.board c.self.invariant.tells c.name_at.ensures.ascending names within)

pub returns-clause-roll : goal.returns-clause-roll
returns-clause-roll c =
    subst (λ (v : State). (names : List UnitName) × IsRoll v names) c.self.view_is
    (names_in c.self.inside.tables.board.roll.seats, roll_of c.self.inside.start (reverse c.self.inside.journal.items) c.self.inside.tables.board c.self.invariant.board c.self.invariant.tells c.name_at.ensures.ascending)
