use Rattle.std.proofs.Common.{◌+◌, ◌≤◌, length, arith, sym, ◌∙◌}
use Rattle.df_value_text.proofs.WordsSteps.{group_on}
use Rattle.df_value_text.proofs.words_reader.groups_end.Goals as goal

pub loop-end-preserved : goal.loop-end-preserved
loop-end-preserved c =
    let within : c.loop-end.end + 16 ≤ length c.args.bytes.now = omega (arith, c.loop-end-test.true) in
    let on = group_on c.args.bytes.now c.loop-end.end (c.loop-end.end + 16) (omega arith) within (sym c.are_plain.ensures ∙ c.if-are_plain.true) in
    record { within = within; sum = omega (arith, c.loop-end.invariant.sum, on) }
