use Rattle.std.proofs.Common.{ℕ, ◌<◌}
use Rattle.std.specs.Prelude.{slice_index_or}
use Rattle.df_spelled.proofs.spelled.each_is_spelled.Given as goal

abbrev pub invariant-loop-thing : goal.invariant-loop-thing
invariant-loop-thing g l = (k : ℕ) (d : g.row.T.Denot) → k < l.thing-index → g.T.Spelled.fits (slice_index_or l.things k d)
