use Rattle.std.proofs.Common.{◌≡◌, Some, cond, ap, sym, subst, ◌∙◌}
use Rattle.df_booking.specs.Manned.{IsManned}
use Rattle.df_booking.specs.code.Renewal.{mind_behind}
use Rattle.df_booking.specs.code.Seeding.{IsSeeded}
use Rattle.df_booking.proofs.Manning.{manned_booked, manned_seeded}
use Rattle.df_booking.proofs.renewal.book_at.Goals as goal
use Rattle.df_kept.specs.Kept.{kept_at}
use Rattle.df_local.specs.code.LocalState.{LocalState}
use Rattle.df_machine.specs.Journal.{State}
use Rattle.df_rules.specs.Follows.{Last, brain_of}
use Rattle.df_unit.specs.Name.{same}

pub book_going-requires-clause-going : goal.book_going-requires-clause-going
book_going-requires-clause-going g c = c.requires.going c.at.result.now (c.at.ensures c.args.going.run.base.unit c.requires.place)

pub returns-in-Ok-book_going-clause-manned : goal.returns-in-Ok-book_going-clause-manned
returns-in-Ok-book_going-clause-manned g c = λ bs m kept under manned.
    let brain = brain_of g.B.StepFunction.next g.B.StepFunction.instance in
    let u = c.args.going.run.base.unit in
    let here : Some c.at.result.now ≡ Some m = sym (c.at.ensures u c.requires.place) ∙ kept in
    let is : c.at.result.now ≡ m = cc in
    let seeded = subst (λ (y : _). IsSeeded brain c.args.going.run.present c.args.going.stage y c.args.seeds.now c.seed.new.seeds) c.state.ensures
    (subst (λ (l : LocalState). IsSeeded brain l c.args.going.stage c.state.result.now c.args.seeds.now c.seed.new.seeds) c.present-unit.ensures c.in-Ok.ensures.ok) in
    subst (λ (k : State). IsManned brain bs c.renew.new.self c.seed.new.seeds k) (sym c.in-Ok-book_going.ensures.entries)
    (manned_booked brain bs c.args.core.now m c.args.going under c.args.minds.now c.renew.new.self c.seed.new.seeds
    (λ n. c.renew.ensures.set u n c.requires.place.seat
    ∙ ap (λ (x : _ × Last). cond (same u n) (Some x) (kept_at n c.args.minds.now)) (c.in-Ok-book_going.ensures.mind ∙ ap (λ (x : _ × Last). mind_behind brain x c.args.going c.args.core.now) is))
    seeded.this (manned_seeded brain bs c.args.core.now m c.args.going under c.args.minds.now c.args.seeds.now c.seed.new.seeds seeded manned))

pub returns-in-Err-clause-manned : goal.returns-in-Err-clause-manned
returns-in-Err-clause-manned g c = λ bs m kept under manned.
    let brain = brain_of g.B.StepFunction.next g.B.StepFunction.instance in
    let seeded = subst (λ (y : _). IsSeeded brain c.args.going.run.present c.args.going.stage y c.args.seeds.now c.seed.new.seeds) c.state.ensures
    (subst (λ (l : LocalState). IsSeeded brain l c.args.going.stage c.state.result.now c.args.seeds.now c.seed.new.seeds) c.present-unit.ensures c.in-Ok.ensures.ok) in
    subst (λ (k : State). IsManned brain bs c.args.minds.now c.seed.new.seeds k) (sym c.in-Err.ensures.unchanged)
    (manned_seeded brain bs c.args.core.now m c.args.going under c.args.minds.now c.args.seeds.now c.seed.new.seeds seeded manned)
