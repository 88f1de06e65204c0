use Rattle.std.proofs.Common.{sym, ◌∙◌}
use Rattle.std.specs.Prelude.{IfOk}
use Rattle.df_booking.specs.CrewState.{CrewState}
use Rattle.df_machine.specs.Journal.{IsRoll}
use Rattle.df_rules.specs.Follows.{brain_of}
use Rattle.df_hub.proofs.At.{journal_at, prefix_same, there}
use Rattle.df_hub.proofs.hub.Hub.units.Goals as goal

pub give-requires-clause-begins : goal.give-requires-clause-begins
give-requires-clause-begins g c = prefix_same _ _ (c.take-crew.ensures.seen ∙ sym c.take-crew.ensures.found)

pub returns-clause-journal : goal.returns-clause-journal
returns-clause-journal g c =
    journal_at (brain_of g.B.StepFunction.next g.B.StepFunction.instance) c.args.self.now.origin c.give.new.pass.seen c.take-crew.result
    c.take-crew.ensures.origin (sym c.give.ensures.seen) c.take-crew.ensures.followed

pub returns-clause-units : goal.returns-clause-units
returns-clause-units g c =
    there (brain_of g.B.StepFunction.next g.B.StepFunction.instance) c.args.self.now.origin c.give.new.pass.seen c.take-crew.result
    c.take-crew.ensures.origin (sym c.give.ensures.seen)
    (λ (k : CrewState _). IfOk c.units-units.result (λ (units : _). IsRoll k.core units.items)) (rw (← c.core.ensures.core) c.units-units.ensures)
