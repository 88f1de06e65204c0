use Rattle.df_crew.proofs.Names.{◌≡◌, true, sym, subst, is_some, option_copied, CrewState, firsts, local_of, began_with, brain_of, rows}
use Rattle.df_crew.proofs.Minded.{found_there}
use Rattle.df_crew.proofs.crew.Crew.mind.Goals as goal

pub unwrap-state-requires : goal.unwrap-state-requires
unwrap-state-requires g c =
    let brain = brain_of g.B.StepFunction.next g.B.StepFunction.instance in
    let u = c.args.unit.now in
    let core = c.self.inside.core in
    let here = subst (λ (x : CrewState _). is_some (local_of x.core u) ≡ true) (sym c.self.view_is) c.requires in
    let state = subst (λ (x : CrewState _). option_copied c.in_ok-first_state.field-0 ≡ began_with brain rows (firsts x.core.0) x.brains x.core.1 u)
    (sym c.self.view_is) c.in_ok-first_state.ensures.state in
    found_there brain g.met.B.Brain.makes_no_unit c.self.inside.brains.items c.self.inside.minds c.self.inside.seeds core c.self.invariant u here
    c.in_ok-first_state.field-0 state
