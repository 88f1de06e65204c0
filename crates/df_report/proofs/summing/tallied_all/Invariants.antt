use Rattle.std.proofs.Common.{◌≡◌, drop}
use Rattle.std.specs.Prelude.{fold}
use Rattle.df_report.specs.code.Tallying.{tallied}
use Rattle.df_report.proofs.summing.tallied_all.Given as goal

abbrev pub invariant-loop-part : goal.invariant-loop-part
invariant-loop-part l = fold tallied l.sum (drop l.part-index l.parts) ≡ fold tallied l.fn.before l.parts
