use Rattle.std.proofs.Common.{◌≡◌, drop}
use Rattle.std.specs.Prelude.{fold}
use Rattle.df_report.specs.Summing.{added}
use Rattle.df_report.specs.code.Tallying.{tallied}
use Rattle.df_report.proofs.summing.summary.Given as goal

abbrev pub invariant-loop-entry : goal.invariant-loop-entry
invariant-loop-entry l = fold tallied l.sum (added (drop l.entry-index l.entries)) ≡ fold tallied l.initial.sum (added l.entries)
