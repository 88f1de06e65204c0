use Rattle.df_crew.proofs.Names.{◌≡◌, true, sym, subst, rules, arith, is_some, local_of, brain_of, UnitName}
use Rattle.df_crew.proofs.Resting.{exists_named, quiet_by}
use Rattle.df_crew.proofs.crew.Crew.are_at_rest.Goals as goal

pub is_at_rest-requires : goal.is_at_rest-requires
is_at_rest-requires g c =
    let core = c.args.self.now.core in
    subst (λ (u : UnitName). is_some (local_of core u) ≡ true) (sym c.unit-item.is)
    (exists_named core c.args.units.now c.requires c.loop-unit.unit-index c.unit-item.result c.loop-unit-test.true)

pub returns : goal.returns
returns g c = (
  λ t. quiet_by (brain_of g.B.StepFunction.next g.B.StepFunction.instance) c.args.self.now c.args.units.now c.requires
      (λ k d few. let end = c.loop-unit-test.false in c.loop-unit.invariant k d (omega arith)),
  λ q. search rules,
)
