use Rattle.std.proofs.Common.{◌≡◌, drop}
use Rattle.df_report.specs.Summing.{with_instances}
use Rattle.df_report.proofs.instances.instances.Given as goal

abbrev pub invariant-loop-i : goal.invariant-loop-i
invariant-loop-i l = with_instances l.count (drop l.i l.entries) ≡ with_instances 0 l.entries
