use Rattle.df_crew.proofs.Names.{◌≡◌, Some, false, sym, subst, ap, ◌∙◌, turned_is, CrewState, mind_in, turned, IsPlace, kept_at, has_delivery_in, Last, brain_of, IsGoing, UnitName}
use Rattle.df_crew.proofs.Minded.{kept_mind, kept_under_way, still_waiting}
use Rattle.df_crew.proofs.crew.Crew.take_turn.Goals as goal
use Rattle.df_crew.proofs.crew.Crew.take_turn.Goals.{in-Ok, in-Err}

pub book_at-requires-clause-place : goal.book_at-requires-clause-place
book_at-requires-clause-place g c =
    let brain = brain_of g.B.StepFunction.next g.B.StepFunction.instance in
    let u = c.args.unit.now in
    let under = kept_under_way brain _ _ c.self.inside.seeds _ c.self.invariant u c.in-Some-local.local.now _ c.in_ok-going.going
    (c.at-mind.ensures u c.in-Some.ensures) c.in-Some-local.ensures c.in_ok-going.ensures.unit c.in_ok-going.ensures.going in
    subst (λ (v : UnitName). IsPlace v c.in-Some.place c.self.inside.minds) (sym under.1) c.in-Some.ensures

pub book_at-requires-clause-going : goal.book_at-requires-clause-going
book_at-requires-clause-going g c = λ m kept.
    let brain = brain_of g.B.StepFunction.next g.B.StepFunction.instance in
    let u = c.args.unit.now in
    let under = kept_under_way brain _ _ c.self.inside.seeds _ c.self.invariant u c.in-Some-local.local.now _ c.in_ok-going.going
    (c.at-mind.ensures u c.in-Some.ensures) c.in-Some-local.ensures c.in_ok-going.ensures.unit c.in_ok-going.ensures.going in
    let here : Some c.at-mind.result.now ≡ Some m =
    sym (c.at-mind.ensures u c.in-Some.ensures) ∙ ap (λ (v : UnitName). kept_at v c.self.inside.minds) (sym under.1) ∙ kept in
    let is : c.at-mind.result.now ≡ m = cc in
    subst (λ (x : _ × Last). IsGoing brain x c.in_ok-going.going) is c.in_ok-going.ensures.going

pub book_at-requires-clause-unit : goal.book_at-requires-clause-unit
book_at-requires-clause-unit g c =
    let brain = brain_of g.B.StepFunction.next g.B.StepFunction.instance in
    let u = c.args.unit.now in
    let under = kept_under_way brain _ _ c.self.inside.seeds _ c.self.invariant u c.in-Some-local.local.now _ c.in_ok-going.going
    (c.at-mind.ensures u c.in-Some.ensures) c.in-Some-local.ensures c.in_ok-going.ensures.unit c.in_ok-going.ensures.going in
    under.0.unit

pub invariant_of-self : goal.invariant_of-self
invariant_of-self g c =
    let brain = brain_of g.B.StepFunction.next g.B.StepFunction.instance in
    let u = c.args.unit.now in
    let under = kept_under_way brain _ _ c.self.inside.seeds _ c.self.invariant u c.in-Some-local.local.now _ c.in_ok-going.going
    (c.at-mind.ensures u c.in-Some.ensures) c.in-Some-local.ensures c.in_ok-going.ensures.unit c.in_ok-going.ensures.going in
    c.book_at.ensures.manned c.self.inside.brains.items c.at-mind.result.now
    (ap (λ (v : UnitName). kept_at v c.self.inside.minds) under.1 ∙ c.at-mind.ensures u c.in-Some.ensures) under.0 c.self.invariant

pub returns-then-not-has_delivery-clause-turned : goal.returns-then-not-has_delivery-clause-turned
returns-then-not-has_delivery-clause-turned g c =
    let brain = brain_of g.B.StepFunction.next g.B.StepFunction.instance in
    let u = c.args.unit.now in
    let mind = kept_mind brain c.self.inside.brains.items c.self.inside.minds c.self.inside.seeds c.self.inside.core c.self.invariant u c.at-mind.result.now
    (c.at-mind.ensures u c.in-Some.ensures) in
    let here = subst (λ (x : CrewState _). mind_in brain x.brains x.core u ≡ Some c.at-mind.result.now) c.self.view_is mind in
    let none : has_delivery_in c.args.self.now.core u ≡ false =
    subst (λ (x : CrewState _). has_delivery_in x.core u ≡ false) c.self.view_is (sym c.has_delivery.ensures ∙ c.if-not-has_delivery.true) in
    sym (still_waiting brain c.args.self.now u c.at-mind.result.now here (c.is_known_to_wait.ensures c.if-is_known_to_wait.true) none)

pub returns-clause-turned : goal.returns-clause-turned
returns-clause-turned g c = elim c.match-book_at.branch [
  | in-Ok w ↦ (
      let brain = brain_of g.B.StepFunction.next g.B.StepFunction.instance in
      let u = c.args.unit.now in
      let under = kept_under_way brain _ _ c.self.inside.seeds _ c.self.invariant u c.in-Some-local.local.now _ c.in_ok-going.going
      (c.at-mind.ensures u c.in-Some.ensures) c.in-Some-local.ensures c.in_ok-going.ensures.unit c.in_ok-going.ensures.going in
      let e = turned_is brain c.self.inside.core c.self.inside.brains.items c.args.self.now c.self.view_is c.at-mind.result.now c.in_ok-going.going under.0 c.self.invariant.followed
      c.in_ok-going.ensures.ended c.book_at.new.core w.in-Ok.ensures.entries in
      rw w.result-is (e ∙ ap (λ (v : UnitName). turned brain v c.args.self.now) under.1))
  | in-Err w ↦ rw w.result-is tt
]
