use Rattle.std.proofs.Common.{refl, sym, ◌∙◌, arith}
use Rattle.df_value_text.proofs.Loops.{text_on}
use Rattle.df_value_text.proofs.label_reader.text_at.Goals as goal

pub loop-byte-preserved : goal.loop-byte-preserved
loop-byte-preserved c =
    let t = text_on c.args.bytes.now c.args.text.now c.loop-byte.byte-index c.loop-byte.place _ 0 _ c.loop-byte-test.true refl
    (sym c.byte_stands.ensures ∙ c.if-not-byte_stands.false) c.loop-byte.invariant.1 in
    (omega (arith, t.0), t.1)
