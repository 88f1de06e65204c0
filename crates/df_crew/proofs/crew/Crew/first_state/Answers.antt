use Rattle.df_crew.proofs.Names.{◌≡◌, true, ap, sym, subst, ◌∙◌, is_some, option_copied, CrewState, kept_at, firsts, local_of, began_with, brain_of, rows, UnitName}
use Rattle.df_crew.proofs.Minded.{seed_began}
use Rattle.df_crew.proofs.crew.Crew.first_state.Goals as goal

pub returns-in_ok-seed_name-in-Managed-clause-state : goal.returns-in_ok-seed_name-in-Managed-clause-state
returns-in_ok-seed_name-in-Managed-clause-state g c =
    let brain = brain_of g.B.StepFunction.next g.B.StepFunction.instance in
    let u = c.args.unit.now in
    let core = c.self.inside.core in
    let bs = c.self.inside.brains.items in
    let here = subst (λ (v : UnitName). is_some (local_of core v) ≡ true) c.in-Managed.is
    (subst (λ (x : CrewState _). is_some (local_of x.core u) ≡ true) (sym c.self.view_is) c.requires) in
    subst (λ (x : CrewState _). option_copied c.get.result ≡ began_with brain rows (firsts x.core.0) x.brains x.core.1 u) c.self.view_is
    (c.get.ensures ∙ ap (λ (n : UnitName). kept_at n c.self.inside.seeds) (c.in_ok-seed_name-in-Managed.ensures)
    ∙ seed_began brain g.met.B.Brain.makes_no_unit bs c.self.inside.minds c.self.inside.seeds core c.self.invariant c.in-Managed.owner c.in-Managed.sub
    c.in-Managed.s here
    ∙ ap (λ (v : UnitName). began_with brain rows (firsts core.0) bs core.1 v) (sym c.in-Managed.is))
