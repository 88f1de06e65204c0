use Rattle.std.proofs.Common.{◌≡◌, sym, ◌∙◌}
use Rattle.std.specs.Prelude.{◌↔◌, Err, IfOk, None}
use Rattle.df_booking.specs.CrewState.{CrewState}
use Rattle.df_crew.specs.Locally.{IsBase}
use Rattle.df_crew.specs.Seen.{core_at}
use Rattle.df_crew.specs.declared.crew.BeginRefused.TheVariants.{NoSuchUnit}
use Rattle.df_machine.specs.Journal.{local_of}
use Rattle.df_rules.specs.Follows.{brain_of}
use Rattle.df_hub.proofs.At.{journal_at, prefix_same, there}
use Rattle.df_hub.proofs.hub.Hub.begin.Goals as goal

pub give-requires-clause-begins : goal.give-requires-clause-begins
give-requires-clause-begins g c = prefix_same _ _ (c.take-crew.ensures.seen ∙ sym c.take-crew.ensures.found)

pub returns-clause-journal : goal.returns-clause-journal
returns-clause-journal g c =
    journal_at (brain_of g.B.StepFunction.next g.B.StepFunction.instance) c.args.self.now.origin c.give.new.pass.seen c.take-crew.result
    c.take-crew.ensures.origin (sym c.give.ensures.seen) c.take-crew.ensures.followed

pub returns-clause-begun : goal.returns-clause-begun
returns-clause-begun g c =
    let brain = brain_of g.B.StepFunction.next g.B.StepFunction.instance in
    c.first_turn.ensures.turn c.args.self.now.origin.brains (core_at c.args.self.now.origin c.give.new.pass.seen) c.args.unit.now
    (there brain c.args.self.now.origin c.give.new.pass.seen c.take-crew.result c.take-crew.ensures.origin (sym c.give.ensures.seen)
    (λ (k : CrewState _). IfOk c.base-base.result (λ b. IsBase brain k.brains k.core c.args.unit.now b)) c.base-base.ensures.base)

pub returns-clause-absent : goal.returns-clause-absent
returns-clause-absent g c =
    let none = there (brain_of g.B.StepFunction.next g.B.StepFunction.instance) c.args.self.now.origin c.give.new.pass.seen c.take-crew.result
    c.take-crew.ensures.origin (sym c.give.ensures.seen)
    (λ (k : CrewState _). (c.base-base.result ≡ Err NoSuchUnit) ↔ (local_of k.core c.args.unit.now ≡ None)) c.base-base.ensures.absent in
    (λ r. none.0 (c.first_turn.ensures.absent.0 r), λ n. c.first_turn.ensures.absent.1 (none.1 n))
