use Rattle.std.proofs.Common.{◌≡◌, ap, sym, subst, ◌∙◌, Some}
use Rattle.df_kept.specs.Kept.{kept_at}
use Rattle.df_booking.specs.code.Seeding.{KeepsAtMost, seed_of}
use Rattle.df_booking.proofs.Manning.{manned_ready}
use Rattle.df_booking.proofs.renewal.prepare.Goals as goal
use Rattle.df_local.specs.code.LocalState.{LocalState}
use Rattle.df_rules.specs.Follows.{brain_of}
use Rattle.df_unit.specs.declared.name.UnitName.{UnitName}

pub returns-in_err-seed-clause-manned : goal.returns-in_err-seed-clause-manned
returns-in_err-seed-clause-manned g c = λ bs core under manned.
    let named = c.name.ensures ∙ ap (λ (l : LocalState). l.unit) c.base.ensures in
    manned_ready (brain_of g.B.StepFunction.next g.B.StepFunction.instance) bs core.0 core.1 c.args.going.now.run.base.unit c.args.base.now c.args.going.now under.going under.unit under.mind
    c.args.minds.now c.keep.new.minds c.args.seeds.now c.seed.new.seeds
    (subst (λ (v : UnitName). KeepsAtMost v c.args.base.now c.args.minds.now c.keep.new.minds) named c.keep.ensures.kept)
    (λ k h. ap (kept_at k) c.in_err-seed.ensures.unchanged) manned

pub returns-clause-manned : goal.returns-clause-manned
returns-clause-manned g c = λ bs core under manned.
    let named = c.name.ensures ∙ ap (λ (l : LocalState). l.unit) c.base.ensures in
    manned_ready (brain_of g.B.StepFunction.next g.B.StepFunction.instance) bs core.0 core.1 c.args.going.now.run.base.unit c.args.base.now c.args.going.now under.going under.unit under.mind
    c.args.minds.now c.keep.new.minds c.args.seeds.now c.seed.new.seeds
    (subst (λ (v : UnitName). KeepsAtMost v c.args.base.now c.args.minds.now c.keep.new.minds) named c.keep.ensures.kept)
    (λ k h. c.in_ok-seed.ensures.ok.others k (subst (λ (l : LocalState). seed_of l c.args.going.now.stage ≡ Some k → ⊥) (sym c.present-unit.ensures) h)) manned
