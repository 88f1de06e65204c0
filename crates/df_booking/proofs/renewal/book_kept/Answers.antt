use Rattle.std.proofs.Common.{Some, cond, ap, sym, subst, ◌∙◌}
use Rattle.df_booking.specs.Manned.{IsManned}
use Rattle.df_booking.proofs.Manning.{manned_booked}
use Rattle.df_booking.proofs.renewal.book_kept.Goals as goal
use Rattle.df_kept.specs.Kept.{kept_at}
use Rattle.df_machine.specs.Journal.{State}
use Rattle.df_rules.specs.Follows.{Last, brain_of}
use Rattle.df_unit.specs.Name.{same}

pub returns-in-Ok-book_going-clause-manned : goal.returns-in-Ok-book_going-clause-manned
returns-in-Ok-book_going-clause-manned g c = λ bs under manned.
    let brain = brain_of g.B.StepFunction.next g.B.StepFunction.instance in
    let u = c.args.going.run.base.unit in
    subst (λ (k : State). IsManned brain bs c.renew.new.self c.prepare.new.seeds k) (sym c.in-Ok-book_going.ensures.entries)
    (manned_booked brain bs c.args.core.now c.args.base.now c.args.going under c.prepare.new.minds c.renew.new.self c.prepare.new.seeds
    (λ n. c.renew.ensures.set u n c.in-Ok.ensures.place.seat
    ∙ ap (λ (m : _ × Last). cond (same u n) (Some m) (kept_at n c.prepare.new.minds)) c.in-Ok-book_going.ensures.mind)
    c.in-Ok.ensures.seeded (c.prepare.ensures.manned bs c.args.core.now under manned))
