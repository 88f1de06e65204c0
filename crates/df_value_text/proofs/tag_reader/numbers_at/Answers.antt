use Rattle.df_value_text.proofs.Names.{◌≡◌, ◌<◌, [], ◌∷◌, length, drop, ap, sym, ◌∙◌, arith, rules, failed_is, length_push, short_at, leads_number}
use Rattle.df_value_text.proofs.Loops.{fails_by, begun, left_on, left_stops, left_done}
use Rattle.df_value_text.proofs.PathLaws.{short_shrinks}
use Rattle.df_value_text.proofs.TagSteps.{number_led, no_number}
use Rattle.df_value_text.proofs.tag_reader.numbers_at.Goals as goal

pub loop-numbers-init : goal.loop-numbers-init
loop-numbers-init c =
    let first = c.in_ok-first.first in
    let one : c.push.new.self.items ≡ first ∷ [] = search rules in (
      first,
      begun leads_number short_at (λ prev. short_at) c.args.bytes.now c.args.at c.in_ok-first.start first c.push.new.self.items
          c.in_ok-first.ensures.exact.1 one,
      c.in_ok-first.ensures.exact.0,
      omega (arith, ap length one),
      omega (arith, c.in_ok-first.ensures.onward),
    )

pub returns-in_err-number-clause-exact : goal.returns-in_err-number-clause-exact
returns-in_err-number-clause-exact c =
    let inv = c.loop-numbers.invariant in
    rw (failed_is _ c.from_residual-in_err-number.ensures.1) (fails_by c.in_err-number.field-0.0 c.args.bytes.now _ _ (left_stops inv.1 short_shrinks
    (number_led inv.0 c.args.bytes.now c.loop-numbers.place (sym c.leads_number.ensures ∙ c.loop-numbers-test.true))) c.in_err-number.ensures.exact)

pub loop-numbers-preserved : goal.loop-numbers-preserved
loop-numbers-preserved c =
    let inv = c.loop-numbers.invariant in
    let led = number_led inv.0 c.args.bytes.now c.loop-numbers.place (sym c.leads_number.ensures ∙ c.loop-numbers-test.true) in
    let pushed = ap length c.in_ok-push-2.ensures.items ∙ length_push c.loop-numbers.numbers.items c.in_ok-number.number in
    let some : 0 < length c.push-in-loop-numbers.new.self.items = omega (arith, pushed) in (
      c.in_ok-number.number,
      left_on inv.1 short_shrinks led c.in_ok-number.after c.in_ok-number.number c.push-in-loop-numbers.new.self.items c.in_ok-number.ensures.exact.1
          c.in_ok-push-2.ensures.items,
      c.in_ok-number.ensures.exact.0,
      some,
      omega (arith, inv.4, c.in_ok-number.ensures.onward),
    )

pub returns-clause-exact : goal.returns-clause-exact
returns-clause-exact c =
    let inv = c.loop-numbers.invariant in
    (inv.2, left_done inv.1 (no_number (drop c.loop-numbers.place c.args.bytes.now) (sym c.leads_number.ensures ∙ c.loop-numbers-test.false)))
