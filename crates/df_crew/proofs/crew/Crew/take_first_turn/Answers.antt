use Rattle.df_crew.proofs.Names.{◌≡◌, Some, sym, subst, CrewState, local_of, brain_of}
use Rattle.df_crew.proofs.Minded.{begun_under_way}
use Rattle.df_crew.proofs.crew.Crew.take_first_turn.Goals as goal

pub book_going-requires-clause-under_way : goal.book_going-requires-clause-under_way
book_going-requires-clause-under_way g c =
    let u = c.args.unit.now in
    let here = subst (λ (x : CrewState _). local_of x.core u ≡ Some c.in-Some.local.now) c.self.view_is (sym c.in-Some.ensures) in
    (begun_under_way (brain_of g.B.StepFunction.next g.B.StepFunction.instance) c.args.self.now.brains c.args.self.now.core u c.in-Some.local.now c.in_ok-mind.mind
    c.in_ok-going.going here c.in_ok-mind.ensures c.in_ok-going.ensures.unit c.in_ok-going.ensures.going).0
