use Rattle.df_value_text.proofs.Names.{◌≡◌, ℤ, Ok, ap, drop, pos, refl, sym, ◌+◌, ◌∙◌, arith, failed_is, as_at, number_at, minus, positive_at}
use Rattle.std.proofs.lemmas.Int.{to_z-of_z}
use mir.Syntax.{w64}
use Rattle.df_value_text.proofs.Loops.{either_behind, fails_by}
use Rattle.df_value_text.proofs.WholeLaws.{positive_format}
use Rattle.df_value_text.proofs.number_reader.whole_at.Goals as goal

pub returns-in_err-distance : goal.returns-in_err-distance
returns-in_err-distance c =
    let below = either_behind 45 (as_at minus (positive_at 9223372036854775808)) (as_at pos (number_at 9223372036854775807)) c.args.bytes.now c.args.at
    (sym c.byte_stands.ensures ∙ c.if-byte_stands.true) in
    let failed = failed_is _ c.from_residual.ensures.1 in
    record {
      exact = rw failed (fails_by c.in_err-distance.field-0.0 c.args.bytes.now _ _ (λ stop e. below ∙ rw e refl) c.in_err-distance.ensures.exact);
      onward = rw failed tt;
    }

pub returns-then-byte_stands : goal.returns-then-byte_stands
returns-then-byte_stands c =
    let below = either_behind 45 (as_at minus (positive_at 9223372036854775808)) (as_at pos (number_at 9223372036854775807)) c.args.bytes.now c.args.at
    (sym c.byte_stands.ensures ∙ c.if-byte_stands.true) in
    let end = drop c.in_ok-distance.end c.args.bytes.now in
    let read : as_at minus (positive_at 9223372036854775808) (drop (c.args.at + 1) c.args.bytes.now) ≡ Ok (minus c.in_ok-distance.distance, end)
    = rw c.in_ok-distance.ensures.exact.1 refl in
    let same = to_z-of_z w64 c.below_zero.result (record { sfits = c.below_zero.type_inv }) ∙ c.below_zero.ensures in
    record {
      exact = (c.in_ok-distance.ensures.exact.0, below ∙ read ∙ ap (λ (z : ℤ). Ok (z, end)) (sym same));
      onward = omega (arith, c.in_ok-distance.ensures.onward);
    }

-- what is read behind the sign isn't 0
pub below_zero-requires : goal.below_zero-requires
below_zero-requires c = record {
  positive = ((positive_format 9223372036854775808 (omega arith)).found (drop (c.args.at + 1) c.args.bytes.now) c.in_ok-distance.distance
      (drop c.in_ok-distance.end c.args.bytes.now) c.in_ok-distance.ensures.exact.1).fits.0;
  small = c.in_ok-distance.ensures.small;
}
