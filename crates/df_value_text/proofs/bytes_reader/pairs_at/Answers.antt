use Rattle.df_value_text.proofs.Names.{ℕ, [], ◌∷◌, ◌++◌, ap, drop, sym, ◌∙◌, arith, drop_all, is_hex, pairs_at, starts}
use Rattle.df_value_text.proofs.WordsSteps.{pair_read, no_pair}
use Rattle.df_value_text.proofs.Loops.{first_of, front_done}
use Rattle.df_value_text.proofs.bytes_reader.pairs_at.Goals.{then-loop-place-test+else-is_hex, else-loop-place-test}
use Rattle.df_value_text.proofs.bytes_reader.pairs_at.Goals as goal

pub loop-place-preserved : goal.loop-place-preserved
loop-place-preserved c =
    let within = c.loop-place-test.true in
    let next = c.if-place-bytes.false in
    let pushed = c.in_ok-push.ensures.items ∙ ap (λ (b : ℕ). c.loop-place.content.items ++ b ∷ []) c.hex_byte.ensures in
    record {
      onward = omega (arith, c.loop-place.invariant.onward);
      within = omega (arith, within, next);
      rest = pair_read c.args.bytes.now c.loop-place.place c.loop-place.content.items c.push.new.self.items _ (omega (arith, within, next))
          (sym c.is_hex.ensures ∙ c.if-is_hex.true) (sym c.is_hex-else-place-bytes.ensures ∙ c.if-not-is_hex.false) pushed c.loop-place.invariant.rest;
    }

pub returns : goal.returns
returns c =
    let here = drop c.loop-place.place c.args.bytes.now in
    let so_far = c.loop-place.invariant.rest in
    record {
      onward = c.loop-place.invariant.onward;
      exact = (
        c.loop-place.invariant.within,
        elim c.loop-place-test.branch [
          | then-loop-place-test+else-is_hex w ↦
              let first = ap (starts is_hex) (first_of c.args.bytes.now c.loop-place.place w.loop-place-test.true) in
              front_done c.loop-place.content.items (pairs_at here) here _ (no_pair here (first ∙ (sym w.is_hex.ensures ∙ w.if-is_hex.false))) so_far
          | else-loop-place-test w ↦
              let none = ap (starts is_hex) (drop_all c.loop-place.place c.args.bytes.now w.loop-place-test.false) in
              front_done c.loop-place.content.items (pairs_at here) here _ (no_pair here none) so_far
        ],
      );
    }
