use Rattle.std.proofs.Common.{◌≡◌}
use Rattle.df_rules.specs.Follows.{Last, brain_of}
use Rattle.df_turn.specs.code.Going.{IsGoing, steps_left}
use Rattle.df_turn.proofs.going.Going.go_on.Given as goal

abbrev pub invariant-loop-self : goal.invariant-loop-self
invariant-loop-self g l = (l.self.run.base ≡ l.initial.self.run.base)
    × ((m : _ × Last) → IsGoing (brain_of g.B.StepFunction.next g.B.StepFunction.instance) m l.initial.self → IsGoing (brain_of g.B.StepFunction.next g.B.StepFunction.instance) m l.self)

abbrev pub decreases-loop-self : goal.decreases-loop-self
decreases-loop-self g l = steps_left l.self
