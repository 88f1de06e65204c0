use Rattle.std.proofs.Common.{List, sym, ◌∙◌, subst}
use Rattle.std.specs.Prelude.{IfOk}
use mathlib.Core.List.{IsPrefix}
use Rattle.df_booking.specs.CrewState.{CrewState}
use Rattle.df_crew.proofs.Seen.{more_origin, more_seen}
use Rattle.df_crew.specs.Locally.{IsBase}
use Rattle.df_crew.specs.Seen.{core_at, seen_of}
use Rattle.df_rules.specs.Follows.{brain_of}
use Rattle.df_unit.specs.declared.entry.Entry.{Entry}
use Rattle.df_hub.proofs.At.{not_stepped, stepped, takes_once, there, was_current}
use Rattle.df_hub.proofs.hub.Hub.step_since.Goals as goal

pub book-booked-requires-clause-since : goal.book-booked-requires-clause-since
book-booked-requires-clause-since g c =
    was_current (brain_of g.B.StepFunction.next g.B.StepFunction.instance) c.args.self.now.origin c.args.turn c.args.pass.now.seen
    c.take-crew.result c.take-crew.ensures.origin
    (subst (λ (es : List Entry). IsPrefix c.args.pass.now.seen es) (sym c.take-crew.ensures.found) c.take-crew.ensures.begins) c.args.since c.requires.since

pub give-requires-clause-origin : goal.give-requires-clause-origin
give-requires-clause-origin g c = more_origin c.take-crew.result c.book-booked.new.crew c.book-booked.ensures.more ∙ c.take-crew.ensures.origin

pub give-requires-clause-begins : goal.give-requires-clause-begins
give-requires-clause-begins g c =
    subst (λ (es : List Entry). IsPrefix es (seen_of c.book-booked.new.crew)) (c.take-crew.ensures.found ∙ sym c.take-crew.ensures.seen)
    (more_seen c.take-crew.result c.book-booked.new.crew c.book-booked.ensures.more)

pub returns-in-Ok : goal.returns-in-Ok
returns-in-Ok g c =
    stepped (brain_of g.B.StepFunction.next g.B.StepFunction.instance) c.args.self.now c.args.turn c.args.pass.now c.give.new.pass
    (takes_once c.args.self.now c.args.pass.now c.take-crew.new.pass c.give.new.pass c.take-crew.ensures.begins c.take-crew.ensures.takes
    c.take-crew.ensures.splits c.give.ensures.free c.give.ensures.found c.give.ensures.takes c.give.ensures.splits)
    c.take-crew.result c.book-booked.new.crew c.take-crew.ensures.origin (c.take-crew.ensures.found ∙ sym c.give.ensures.found)
    c.book-booked.ensures.more (sym c.give.ensures.seen) c.follow.ensures
    c.in-Ok.ensures.current c.in-Ok.ensures.booked c.answer.result c.in-Ok.booked.appended c.in-Ok.booked.entries c.answer.ensures.appended
    c.answer.ensures.entries c.in-Ok.ensures.counted
    (c.answer.ensures.turn c.args.self.now.origin.brains (core_at c.args.self.now.origin c.give.new.pass.seen) c.args.turn.unit.unit
    (there (brain_of g.B.StepFunction.next g.B.StepFunction.instance) c.args.self.now.origin c.give.new.pass.seen c.book-booked.new.crew
    (more_origin c.take-crew.result c.book-booked.new.crew c.book-booked.ensures.more ∙ c.take-crew.ensures.origin) (sym c.give.ensures.seen)
    (λ (k : CrewState _). IfOk c.in-Ok.booked.base (λ b.
    IsBase (brain_of g.B.StepFunction.next g.B.StepFunction.instance) k.brains k.core c.args.turn.unit.unit b))
    c.in-Ok.ensures.anew))

pub returns-in-Err : goal.returns-in-Err
returns-in-Err g c =
    not_stepped (brain_of g.B.StepFunction.next g.B.StepFunction.instance) c.args.self.now c.args.turn c.args.pass.now c.give.new.pass
    (takes_once c.args.self.now c.args.pass.now c.take-crew.new.pass c.give.new.pass c.take-crew.ensures.begins c.take-crew.ensures.takes
    c.take-crew.ensures.splits c.give.ensures.free c.give.ensures.found c.give.ensures.takes c.give.ensures.splits)
    c.take-crew.result c.book-booked.new.crew c.take-crew.ensures.origin (c.take-crew.ensures.found ∙ sym c.give.ensures.found)
    c.book-booked.ensures.more (sym c.give.ensures.seen) c.follow.ensures
    c.in-Err.ensures.unchanged c.in-Err.refused c.in-Err.ensures.refused c.in-Err.ensures.back
