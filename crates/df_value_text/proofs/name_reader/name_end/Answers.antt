use Rattle.std.proofs.Common.{arith, sym, ◌∙◌, ◌-◌, ◌+◌, drop}
use Rattle.df_value_text.proofs.WordsSteps.{none_left, none_there, none_fits}
use Rattle.df_value_text.proofs.name_reader.name_end.Goals.{then-loop-count-test+then-at-count+else-is_name_byte, then-loop-count-test+else-at-count, else-loop-count-test}
use Rattle.df_value_text.proofs.name_reader.name_end.Goals as goal

pub returns-clause-value : goal.returns-clause-value
returns-clause-value c =
    let left = 31 - c.loop-count.count in
    let place = c.args.at + c.loop-count.count in
    elim c.loop-count-test.branch [
      | then-loop-count-test+then-at-count+else-is_name_byte w ↦ omega
          (arith, c.loop-count.invariant.sum, none_fits left place c.args.bytes.now w.if-at-count.true (sym w.is_name_byte.ensures ∙ w.if-is_name_byte.false))
      | then-loop-count-test+else-at-count w ↦ omega (arith, c.loop-count.invariant.sum, none_there left place c.args.bytes.now w.if-at-count.false)
      | else-loop-count-test w ↦ omega
          (arith, c.loop-count.invariant.sum, none_left left (drop place c.args.bytes.now) (omega (arith, w.loop-count-test.false)))
    ]
