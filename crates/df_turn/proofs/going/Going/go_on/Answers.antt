use Rattle.std.proofs.Common.{◌≤◌, length, ap, arith}
use Rattle.std.specs.Prelude.{List}
use Rattle.df_rules.specs.Follows.{brain_of}
use Rattle.df_turn.specs.Locally.{most_local}
use Rattle.df_turn.specs.code.Going.{IsGoing}
use Rattle.df_turn.proofs.Goings.{most_is, settled_ends}
use Rattle.df_turn.proofs.going.Going.go_on.Goals as goal
use Rattle.df_turn.proofs.going.Going.go_on.Goals.{then-loop-self-test+else-goes_on, else-loop-self-test}
use Rattle.df_unit.specs.declared.entry.Entry.{Entry}

pub step-requires-clause-few : goal.step-requires-clause-few
step-requires-clause-few g c =
    let same = ap (λ (es : List Entry). length es) c.entries.ensures.entries in
    let below = c.loop-self-test.true in
    omega (arith, most_is)

pub returns-clause-ended : goal.returns-clause-ended
returns-clause-ended g c =
    settled_ends (λ m. IsGoing (brain_of g.B.StepFunction.next g.B.StepFunction.instance) m c.args.self.now) c.loop-self.self c.settle.new.self c.settle.result
    c.settle.ensures.run c.settle.ensures.same c.settle.ensures.settled
    (λ m h goes.
    let same = ap (λ (es : List Entry). length es) c.entries.ensures.entries in
    let few : length c.loop-self.self.run.entries ≤ most_local = (c.loop-self.invariant.1 m h).few in
    elim c.loop-self-test.branch [
      | then-loop-self-test+else-goes_on w ↦ absurd (let no = w.goes_on.ensures in let stops = w.if-goes_on.false in let z : ⊥ = cc in z)
      | else-loop-self-test w ↦ (let above = w.loop-self-test.false in omega (arith, most_is))
    ])
