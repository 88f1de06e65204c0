use Rattle.std.proofs.Common.{◌∙◌, ap, drop_of_length-le, fold, sym, arith}
use Rattle.df_report.specs.Summing.{added, summary_of}
use Rattle.df_report.specs.code.Tallying.{tallied}
use Rattle.df_report.proofs.Folds.{tallied_is}
use Rattle.df_report.proofs.summing.summary.Goals as goal

pub returns : goal.returns
returns c =
    let entries = c.args.entries.now in
    sym (ap (λ es. fold tallied c.loop-entry.sum (added es)) (drop_of_length-le entries (omega (arith, c.loop-entry-test.false))))
    ∙ c.loop-entry.invariant ∙ tallied_is (added entries) _ ∙ ap (λ n. record (summary_of entries) { instances = n }) c.instances.ensures
