use Rattle.std.proofs.Common.{◌≡◌, drop}
use Rattle.df_brain.specs.Brain.{last_of}
use Rattle.df_rules.specs.Follows.{brain_of}
use Rattle.df_turn.specs.code.Going.{led}
use Rattle.df_turn.proofs.going.tell_all.Given as goal

abbrev pub invariant-loop-entry : goal.invariant-loop-entry
invariant-loop-entry g l =
    led (brain_of g.B.StepFunction.next g.B.StepFunction.instance) (drop l.entry-index l.entries) (l.state, last_of l.last)
    ≡ led (brain_of g.B.StepFunction.next g.B.StepFunction.instance) l.entries (l.initial.state, last_of l.initial.last)
