use Rattle.df_value_text.proofs.Names.{◌≡◌, ◌+◌, List, ℕ, [], ◌∷◌, Err, length, drop, sym, ap, ◌∙◌, arith, rules, failed_is, length_push, Stop, tag_at, next_at, leads_tag}
use Rattle.df_value_text.proofs.Loops.{fails_by, begun, left_on, left_stops, left_done, comma_led, no_comma}
use Rattle.df_value_text.proofs.TagSetLaws.{next_shrinks}
use Rattle.df_value_text.proofs.TagSteps.{last_is}
use Rattle.df_value_text.proofs.tag_reader.some_tags_at.Goals as goal

pub tags-init : goal.tags-init
tags-init c =
    let first = c.in_ok-first.first in
    let one : c.push.new.self.items ≡ first ∷ [] = search rules in (
      [],
      first,
      one,
      begun leads_tag tag_at next_at c.args.bytes.now c.args.at c.in_ok-first.start first c.push.new.self.items c.in_ok-first.ensures.exact.1 one,
      c.in_ok-first.ensures.exact.0,
      search rules,
    )

pub returns-in_err-tag : goal.returns-in_err-tag
returns-in_err-tag c =
    let inv = c.tags.invariant in
    let same = c.index.ensures
    ∙ last_is c.tags.tags.items inv.0 inv.1 _ _ (omega (arith, c.len.ensures, inv.5, ap length inv.2, length_push inv.0 inv.1)) inv.2 in
    let here = drop (c.tags.place + 1) c.args.bytes.now in
    let led = comma_led inv.1 c.args.bytes.now c.tags.place (sym c.byte_stands.ensures ∙ c.tags-test.true) in
    let stops = λ (stop : Stop ℕ) (e : next_at c.index.result.now here ≡ Err stop).
    left_stops inv.3 next_shrinks led stop (ap (λ (t : List ℕ). next_at t here) (sym same) ∙ e) in
    let failed = failed_is _ c.from_residual-in_err-tag.ensures.1 in
    record { exact = rw failed (fails_by c.in_err-tag.field-0.0 c.args.bytes.now _ _ stops c.in_err-tag.ensures.exact) }

pub tags-preserved : goal.tags-preserved
tags-preserved c =
    let inv = c.tags.invariant in
    let same = c.index.ensures
    ∙ last_is c.tags.tags.items inv.0 inv.1 _ _ (omega (arith, c.len.ensures, inv.5, ap length inv.2, length_push inv.0 inv.1)) inv.2 in
    let here = drop (c.tags.place + 1) c.args.bytes.now in
    let led = comma_led inv.1 c.args.bytes.now c.tags.place (sym c.byte_stands.ensures ∙ c.tags-test.true) in (
      c.tags.tags.items,
      c.in_ok-tag.tag,
      c.in_ok-push-2.ensures.items,
      left_on inv.3 next_shrinks led c.in_ok-tag.after c.in_ok-tag.tag c.push-in-tags.new.self.items
          (ap (λ (t : List ℕ). next_at t here) (sym same) ∙ c.in_ok-tag.ensures.exact.1) c.in_ok-push-2.ensures.items,
      c.in_ok-tag.ensures.exact.0,
      omega (arith, c.in_ok-push-2.ensures.len, inv.5, ap length c.in_ok-push-2.ensures.items, length_push c.tags.tags.items c.in_ok-tag.tag),
    )

pub returns : goal.returns
returns c =
    let inv = c.tags.invariant in
    record { exact = (inv.4, left_done inv.3 (no_comma (drop c.tags.place c.args.bytes.now) (sym c.byte_stands.ensures ∙ c.tags-test.false))) }
