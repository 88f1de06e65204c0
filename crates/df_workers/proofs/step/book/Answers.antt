use Rattle.df_workers.proofs.Names.{List, subst, IsPrefix, brain_of, Entry, prefix_trans}
use Rattle.df_workers.proofs.Turned.{booked_behind}
use Rattle.df_workers.proofs.Stepped.{seen_current, step_booked, step_refused}
use Rattle.df_workers.proofs.step.book.Goals as goal

pub returns-in-Ok-clause-next : goal.returns-in-Ok-clause-next
returns-in-Ok-clause-next g c =
    step_booked (brain_of g.B.StepFunction.next g.B.StepFunction.instance) c.args.hub.now.origin c.args.max c.args.unit.now c.requires.turn.first c.args.turn
    c.args.pass.now.seen
    c.requires.turn.begun c.requires.turn.advanced c.step_seen.new.pass.found c.step_seen.new.pass.seen c.step_seen.ensures.takes.found c.in-Ok.ensures.booked
    c.in-Ok.stepped c.in-Ok.ensures.counted c.in-Ok.ensures.anew
    c.booked.result c.booked.ensures

pub returns-in-Err-clause-next : goal.returns-in-Err-clause-next
returns-in-Err-clause-next g c =
    step_refused (brain_of g.B.StepFunction.next g.B.StepFunction.instance) c.args.hub.now.origin c.args.max c.args.unit.now c.requires.turn.first c.args.turn
    c.args.pass.now.seen
    c.requires.turn.begun c.requires.turn.advanced c.step_seen.new.pass.found c.refused.new.pass.seen c.step_seen.ensures.takes.found
    (subst (λ (es : List Entry). IsPrefix es c.refused.new.pass.seen) c.in-Err.ensures.unchanged c.refused.ensures.begins)
    c.in-Err.not_turned.cause c.in-Err.ensures.refused c.refused.result c.refused.ensures.stale c.refused.ensures.short

pub returns-in-Ok-clause-begins : goal.returns-in-Ok-clause-begins
returns-in-Ok-clause-begins g c =
    prefix_trans c.args.pass.now.seen c.step_seen.new.pass.found c.step_seen.new.pass.seen c.step_seen.ensures.takes.found
    (booked_behind (brain_of g.B.StepFunction.next g.B.StepFunction.instance) c.args.hub.now.origin c.args.turn c.step_seen.new.pass.found
    c.step_seen.new.pass.seen c.in-Ok.ensures.booked)

pub step_seen-requires-clause-turn : goal.step_seen-requires-clause-turn
step_seen-requires-clause-turn g c =
    seen_current (brain_of g.B.StepFunction.next g.B.StepFunction.instance) c.args.hub.now.origin c.args.max c.args.unit.now c.requires.turn.first c.args.turn
    c.args.pass.now.seen
    c.requires.turn.begun c.requires.turn.advanced
