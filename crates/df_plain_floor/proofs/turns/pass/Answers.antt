use Rattle.df_plain_floor.proofs.Names.{◌≡◌, ℕ, List, false, not, sym, subst, ap, ◌∙◌, length, nat_eq, CrewState, IsRoll, State, IsQuiet, is_full, brain_of, UnitName}
use Rattle.df_plain_floor.proofs.Passing.{appending, stood}
use Rattle.df_plain_floor.proofs.Resting.{quiet}
use Rattle.df_plain_floor.proofs.turns.pass.Goals as goal

pub returns-clause-appending : goal.returns-clause-appending
returns-clause-appending g c =
    appending (brain_of g.B.StepFunction.next g.B.StepFunction.instance) c.args.max c.args.crew.now c.take_turns.new.crew c.in_ok-take_turns.ensures.turns
    (not (nat_eq c.entries.result c.entries-before.result))
    (ap (λ (m : ℕ). not (nat_eq m c.entries-before.result)) c.entries.ensures
    ∙ ap (λ (m : ℕ). not (nat_eq (length c.take_turns.new.crew.core.1) m)) c.entries-before.ensures)

pub returns-clause-rest : goal.returns-clause-rest
returns-clause-rest g c = λ told below.
    let brain = brain_of g.B.StepFunction.next g.B.StepFunction.instance in
    let old = c.args.crew.now in
    let new = c.take_turns.new.crew in
    let names = c.as_slice.result.now in
    let same : new ≡ old = stood brain c.args.max old new c.in_ok-take_turns.ensures.turns (not (nat_eq c.entries.result c.entries-before.result))
    (ap (λ (m : ℕ). not (nat_eq m c.entries-before.result)) c.entries.ensures
    ∙ ap (λ (m : ℕ). not (nat_eq (length new.core.1) m)) c.entries-before.ensures) told in
    let listed : IsRoll old.core c.in_ok-units.units.items = subst (λ (k : State). IsRoll k c.in_ok-units.units.items) c.core.ensures.core
    c.in_ok-units.ensures in
    let roll : IsRoll old.core names = subst (λ (l : List UnitName). IsRoll old.core l) (sym c.as_slice.ensures.value) listed in
    let less : is_full c.args.max old ≡ false = subst (λ (x : CrewState _). is_full c.args.max x ≡ false) same below in
    subst (λ (x : CrewState _). IsQuiet brain x) (sym same) (quiet brain c.args.max names old roll less (sym c.in_ok-take_turns.ensures.taken
    ∙ same) (c.in_ok-take_turns.ensures.brains same))
