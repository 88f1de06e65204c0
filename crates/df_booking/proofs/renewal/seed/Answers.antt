use Rattle.std.proofs.Common.{ap, sym, subst, ◌∙◌, ◌≡◌, Some}
use Rattle.std.specs.Prelude.{IfSome, Option}
use Rattle.std.specs.Option.{option_map}
use Rattle.df_booking.specs.code.Seeding.{seed_of}
use Rattle.df_booking.proofs.Manning.{seeded_is}
use Rattle.df_booking.proofs.renewal.seed.Goals as goal
use Rattle.df_rules.specs.Follows.{brain_of}
use Rattle.df_unit.specs.declared.name.UnitName.{UnitName}

pub returns-in_ok-put-clause-ok : goal.returns-in_ok-put-clause-ok
returns-in_ok-put-clause-ok g c =
    let brain = brain_of g.B.StepFunction.next g.B.StepFunction.instance in
    let l = c.args.unit.now in
    let x = c.args.state.now in
    let name : Some c.in-Some.name ≡ seed_of l c.args.stage.now = ap (option_map (λ (s : UnitName × _). s.0)) (sym c.in-Some.is) ∙ c.in_ok-name.ensures.name in
    let made = subst (λ (o : Option (UnitName × _)). IfSome o (λ s. s.1 ≡ g.B.StepFunction.instance x l.own.subs)) c.in-Some.is c.in_ok-name.ensures.brain in
    seeded_is brain l c.args.stage.now x c.in-Some.name c.in-Some.brain name made c.args.seeds.now c.put.new.self c.in_ok-put.ensures.ok
