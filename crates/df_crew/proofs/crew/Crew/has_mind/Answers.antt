use Rattle.df_crew.proofs.Names.{◌≡◌, [], None, Some, true, ap, sym, subst, ◌∙◌, is_some, option_copied, CrewState, mind_in, kept_at, firsts, local_of, Last, began_with, brain_of, replies_of, rows}
use Rattle.df_crew.proofs.Minded.{found_there, kept_mind, none_told}
use Rattle.df_memory.proofs.Errors.{on_err}
use Rattle.df_crew.proofs.crew.Crew.has_mind.Goals as goal

pub returns-in-Some-clause-is : goal.returns-in-Some-clause-is
returns-in-Some-clause-is g c =
    let brain = brain_of g.B.StepFunction.next g.B.StepFunction.instance in
    let u = c.args.unit.now in
    let here : _ × Last = c.in-Some.here.now in
    let at : kept_at u c.self.inside.minds ≡ Some here = sym c.in-Some.ensures in
    let is : mind_in brain c.args.self.now.brains c.args.self.now.core u ≡ Some here =
    subst (λ (x : CrewState _). mind_in brain x.brains x.core u ≡ Some here) c.self.view_is
    (kept_mind brain c.self.inside.brains.items c.self.inside.minds c.self.inside.seeds c.self.inside.core c.self.invariant u here at) in (
      λ h. is ∙ ap (λ (m : _ × Last). Some m) (c.same.ensures.0 h),
      λ h. c.same.ensures.1 (let z : Some here ≡ Some c.args.mind.now = sym is ∙ h in cc),
    )

pub unwrap-state-requires : goal.unwrap-state-requires
unwrap-state-requires g c =
    let brain = brain_of g.B.StepFunction.next g.B.StepFunction.instance in
    let u = c.args.unit.now in
    let core = c.self.inside.core in
    let here = subst (λ (x : CrewState _). is_some (local_of x.core u) ≡ true) (sym c.self.view_is) c.requires in
    let state = subst (λ (x : CrewState _). option_copied c.in_ok-first_state.field-0 ≡ began_with brain rows (firsts x.core.0) x.brains x.core.1 u)
    (sym c.self.view_is) c.in_ok-first_state.ensures.state in
    found_there brain g.met.B.Brain.makes_no_unit c.self.inside.brains.items c.self.inside.minds c.self.inside.seeds core c.self.invariant u here
    c.in_ok-first_state.field-0 state

pub returns-in_err-first_state-clause-untold : goal.returns-in_err-first_state-clause-untold
returns-in_err-first_state-clause-untold g c =
    let brain = brain_of g.B.StepFunction.next g.B.StepFunction.instance in
    let u = c.args.unit.now in
    let none : kept_at u c.self.inside.minds ≡ None = sym c.get.ensures ∙ ap option_copied c.in_default.is in
    let told = none_told brain c.self.inside.brains.items c.self.inside.minds c.self.inside.seeds c.self.inside.core c.self.invariant u none in
    on_err c.from_residual.result (subst (λ (x : CrewState _). replies_of u x.core.1 ≡ []) c.self.view_is told)
