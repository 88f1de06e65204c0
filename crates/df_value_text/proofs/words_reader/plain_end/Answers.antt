use Rattle.std.proofs.Common.{arith, sym, ◌∙◌}
use Rattle.df_value_text.proofs.WordsSteps.{run_broken, run_ended, run_on}
use Rattle.df_value_text.proofs.words_reader.plain_end.Goals as goal

pub loop-end-preserved : goal.loop-end-preserved
loop-end-preserved c =
    let on = run_on c.args.bytes.now c.loop-end.end c.loop-end-test.true (sym c.is_plain.ensures ∙ c.if-is_plain.true) in
    record { within = omega (arith, c.loop-end-test.true); sum = omega (arith, c.loop-end.invariant.sum, on) }

pub returns-else-is_plain-clause-value : goal.returns-else-is_plain-clause-value
returns-else-is_plain-clause-value c =
    let none = run_broken c.args.bytes.now c.loop-end.end c.loop-end-test.true (sym c.is_plain.ensures ∙ c.if-is_plain.false) in
    omega (arith, c.loop-end.invariant.sum, none)

pub returns-after-loop-end-clause-value : goal.returns-after-loop-end-clause-value
returns-after-loop-end-clause-value c =
    let none = run_ended c.args.bytes.now c.loop-end.end c.loop-end-test.false in
    omega (arith, c.loop-end.invariant.sum, none)
