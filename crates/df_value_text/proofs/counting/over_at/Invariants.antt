use Rattle.df_value_text.proofs.Names.{length, ◌-◌, ◌≤◌, AreWithin, IsCounted}
use Rattle.df_value_text.proofs.CountingSteps.{Reached}
use Rattle.df_value_text.proofs.counting.over_at.Given as goal

-- the walk has come to the place, and no count is passed
abbrev pub invariant-loop-place : goal.invariant-loop-place
invariant-loop-place l = record {
  within : l.place ≤ length l.bytes;
  reached : Reached l.bytes l.at l.place l.walk;
  low : AreWithin l.walk;
  counted : IsCounted l.walk;
}

abbrev pub decreases-loop-place : goal.decreases-loop-place
decreases-loop-place l = length l.bytes - l.place
