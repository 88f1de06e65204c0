use Rattle.df_crew.proofs.Names.{ℕ, ◌<◌, get_or, IsResting, brain_of, UnitName}
use Rattle.df_crew.proofs.crew.Crew.are_at_rest.Given as goal

abbrev pub invariant-loop-unit : goal.invariant-loop-unit
invariant-loop-unit g l = (k : ℕ) (d : UnitName) → k < l.unit-index → IsResting (brain_of g.B.StepFunction.next g.B.StepFunction.instance) l.self
    (get_or l.units k d)
