use Rattle.df_crew.proofs.Names.{sym, subst, CrewState, IsUnderWay, brain_of}
use Rattle.df_crew.proofs.Minded.{booked_ok}
use Rattle.df_crew.proofs.crew.Crew.book_going.Goals as goal

pub invariant_of-self : goal.invariant_of-self
invariant_of-self g c =
    let brain = brain_of g.B.StepFunction.next g.B.StepFunction.instance in
    let under = subst (λ (x : CrewState _). IsUnderWay brain x.brains c.args.base.now c.args.going x.core) (sym c.self.view_is) c.requires.under_way in
    c.book_kept.ensures.manned c.self.inside.brains.items under c.self.invariant

pub returns-clause-ok : goal.returns-clause-ok
returns-clause-ok g c =
    let brain = brain_of g.B.StepFunction.next g.B.StepFunction.instance in
    let under = subst (λ (x : CrewState _). IsUnderWay brain x.brains c.args.base.now c.args.going x.core) (sym c.self.view_is) c.requires.under_way in
    booked_ok brain c.self.inside.core c.self.inside.brains.items c.args.self.now c.self.view_is c.args.base.now c.args.going under c.self.invariant.followed c.requires.ended
    c.book_kept.new.core c.book_kept.result c.book_kept.ensures.entries
