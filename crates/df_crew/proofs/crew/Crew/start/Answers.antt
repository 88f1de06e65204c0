use Rattle.df_crew.proofs.Names.{sym, subst, IsManned, State, brain_of}
use Rattle.df_crew.proofs.Minded.{manned_start}
use Rattle.df_crew.proofs.crew.Crew.start.Goals as goal

pub invariant_of-result : goal.invariant_of-result
invariant_of-result g c =
    let brain = brain_of g.B.StepFunction.next g.B.StepFunction.instance in
    let bs = c.args.brains.items in
    subst (λ (k : State). IsManned brain bs c.new-minds.result c.new-seeds.result k) (sym c.in_ok-core.ensures)
    (manned_start brain c.args.start bs c.new-minds.result c.new-seeds.result c.requires c.new-minds.ensures)
