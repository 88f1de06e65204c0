use Rattle.df_value_text.proofs.Names.{◌≡◌, ℕ, ◌+◌, List, [], ◌∷◌, ◌++◌, drop, Ok, refl, sym, ap, subst, ◌∙◌, arith, failed_is, Plain, items, from_list, named, plain}
use Rattle.std.proofs.lemmas.List.{map_push}
use Rattle.std.proofs.Common.{map}
use Rattle.df_frozen.specs.Entries.{names}
use Rattle.df_frozen.specs.declared.value.Value.{Value}
use Rattle.df_value_text.specs.ReadValue.{leads_value, list_of, leads_entry, entry_at, next_entry_at, map_of, value_at}
use Rattle.df_value_text.proofs.Loops.{fails_by, begun, left_on, left_stops, left_done, comma_led, no_comma}
use Rattle.df_value_text.proofs.ValueSteps.{AreUpTo, pushed, up_to_one, up_to_more, begins_within, opened_list, opened_map, leaf_same, a_list, a_map, none_made, first_stops, inside_stops, closing_stops, inside_reads, entry_led, entry_last}
use Rattle.df_value_text.proofs.ValueLaws.{is_higher, value_shrinks, entry_parts}
use Rattle.df_value_text.proofs.value_reader.+read.Goals as goal

-- ---- values

pub value_at-returns-then-byte_stands-clause-exact : goal.value_at-returns-then-byte_stands-clause-exact
value_at-returns-then-byte_stands-clause-exact t c =
    rw (opened_list c.args.bytes.now c.args.at (sym c.byte_stands.ensures ∙ c.if-byte_stands.true)) c.list_at.ensures.exact

pub value_at-returns-then-byte_stands-2-clause-exact : goal.value_at-returns-then-byte_stands-2-clause-exact
value_at-returns-then-byte_stands-2-clause-exact t c =
    rw (opened_map c.args.bytes.now c.args.at (sym c.byte_stands.ensures ∙ c.if-byte_stands.false)
    (sym c.byte_stands-2.ensures ∙ c.if-byte_stands-2.true)) c.map_at.ensures.exact

pub value_at-returns-clause-exact : goal.value_at-returns-clause-exact
value_at-returns-clause-exact t c =
    rw (leaf_same (drop c.args.at c.args.bytes.now) (sym c.byte_stands.ensures ∙ c.if-byte_stands.false)
    (sym c.byte_stands-2.ensures ∙ c.if-byte_stands-2.false)) c.leaf_at.ensures.exact

-- ---- lists

pub list_at-returns-then-byte_stands-clause-exact : goal.list_at-returns-then-byte_stands-clause-exact
list_at-returns-then-byte_stands-clause-exact t c =
    let stands = sym c.byte_stands.ensures ∙ c.if-byte_stands.true in (
      begins_within c.args.bytes.now c.args.at 93 stands,
      none_made a_list c.args.bytes.now c.args.at stands
          ∙ ap (λ (ps : List Plain). Ok (list_of ps, drop (c.args.at + 1) c.args.bytes.now)) (sym c.new.ensures),
    )

pub list_at-returns-in_err-first-clause-exact : goal.list_at-returns-in_err-first-clause-exact
list_at-returns-in_err-first-clause-exact t c =
    rw (failed_is _ c.from_residual.ensures.1) (fails_by c.in_err-first.field-0.0 c.args.bytes.now _ _ (first_stops a_list (drop c.args.at c.args.bytes.now)
    (sym c.byte_stands.ensures ∙ c.if-byte_stands.false)) c.in_err-first.ensures.exact)

pub list_at-values-init : goal.list_at-values-init
list_at-values-init t c =
    let first = plain c.in_ok-first.first in (
      first,
      first ∷ [],
      pushed [] first _ _ (ap (λ (ps : List Plain). items (from_list ps)) c.new.ensures) c.in_ok-push.ensures.pushed,
      begun leads_value value_at (λ prev. value_at) c.args.bytes.now c.args.at c.in_ok-first.start first (first ∷ [])
          c.in_ok-first.ensures.exact.1 refl,
      c.in_ok-first.ensures.exact.0,
      c.in_ok-first.ensures.onward,
    )

pub list_at-returns-in_err-value-clause-exact : goal.list_at-returns-in_err-value-clause-exact
list_at-returns-in_err-value-clause-exact t c =
    let inv = c.values.invariant in
    let led = comma_led inv.0 c.args.bytes.now c.values.place (sym c.byte_stands-in-values.ensures ∙ c.values-test.true) in
    rw (failed_is _ c.from_residual-in_err-value.ensures.1) (fails_by c.in_err-value.field-0.0 c.args.bytes.now _ _ (λ stop e. inside_stops a_list (drop
    c.args.at c.args.bytes.now) (sym c.byte_stands.ensures ∙ c.if-byte_stands.false) stop (left_stops inv.3 (λ prev. value_shrinks) led stop e))
    c.in_err-value.ensures.exact)

pub list_at-values-preserved : goal.list_at-values-preserved
list_at-values-preserved t c =
    let inv = c.values.invariant in
    let value = plain c.in_ok-value.value in
    let led = comma_led inv.0 c.args.bytes.now c.values.place (sym c.byte_stands-in-values.ensures ∙ c.values-test.true) in (
      value,
      inv.1 ++ value ∷ [],
      pushed inv.1 value _ _ inv.2 c.in_ok-push-2.ensures.pushed,
      left_on inv.3 (λ prev. value_shrinks) led c.in_ok-value.after value (inv.1 ++ value ∷ [])
          c.in_ok-value.ensures.exact.1 refl,
      c.in_ok-value.ensures.exact.0,
      omega (arith, inv.5, c.in_ok-value.ensures.onward),
    )

pub list_at-returns-in_err-end-clause-exact : goal.list_at-returns-in_err-end-clause-exact
list_at-returns-in_err-end-clause-exact t c =
    let inv = c.values.invariant in
    let done = left_done inv.3 (no_comma (drop c.values.place c.args.bytes.now) (sym c.byte_stands-in-values.ensures ∙ c.values-test.false)) in
    rw (failed_is _ c.from_residual-in_err-end.ensures.1) (fails_by c.in_err-end.field-0.0 c.args.bytes.now _ _ (closing_stops a_list (drop c.args.at
    c.args.bytes.now) (drop c.values.place c.args.bytes.now) inv.1 (sym c.byte_stands.ensures ∙ c.if-byte_stands.false) done) c.in_err-end.ensures.exact)

pub list_at-returns-clause-exact : goal.list_at-returns-clause-exact
list_at-returns-clause-exact t c =
    let inv = c.values.invariant in
    let done = left_done inv.3 (no_comma (drop c.values.place c.args.bytes.now) (sym c.byte_stands-in-values.ensures ∙ c.values-test.false)) in (
      c.in_ok-end.ensures.exact.0,
      inside_reads a_list (drop c.args.at c.args.bytes.now) (drop c.values.place c.args.bytes.now) (drop c.in_ok-end.end c.args.bytes.now) inv.1
          (93 ∷ []) (sym c.byte_stands.ensures ∙ c.if-byte_stands.false) done c.in_ok-end.ensures.exact.1
          ∙ ap (λ (p : Plain). Ok (p, drop c.in_ok-end.end c.args.bytes.now)) (sym inv.2),
    )

-- ---- maps

pub map_at-returns-then-byte_stands-clause-exact : goal.map_at-returns-then-byte_stands-clause-exact
map_at-returns-then-byte_stands-clause-exact t c =
    let stands = sym c.byte_stands.ensures ∙ c.if-byte_stands.true in (
      begins_within c.args.bytes.now c.args.at 41 stands,
      none_made a_map c.args.bytes.now c.args.at stands
          ∙ ap (λ (es : List (List ℕ × Plain)). Ok (map_of es, drop (c.args.at + 1) c.args.bytes.now)) (sym c.new.ensures),
    )

pub map_at-returns-in_err-first-clause-exact : goal.map_at-returns-in_err-first-clause-exact
map_at-returns-in_err-first-clause-exact t c =
    rw (failed_is _ c.from_residual.ensures.1) (fails_by c.in_err-first.field-0.0 c.args.bytes.now _ _ (first_stops a_map (drop c.args.at c.args.bytes.now)
    (sym c.byte_stands.ensures ∙ c.if-byte_stands.false)) c.in_err-first.ensures.exact)

pub map_at-entries-init : goal.map_at-entries-init
map_at-entries-init t c =
    let first = c.in_ok-first.first in
    let is : c.push_entry.new.entries.items ≡ first ∷ [] = c.in_ok-push_entry.ensures ∙ ap (λ es. es ++ first ∷ []) c.new-entries.ensures.items in (
      plain first.1,
      begun leads_entry (entry_at value_at) (λ prev. next_entry_at value_at prev.0) c.args.bytes.now c.args.at
          c.in_ok-first.start (named first) _ c.in_ok-first.ensures.exact.1 (ap (map named) is),
      subst (λ es. AreUpTo (names es) first.0) (sym is) (up_to_one first.0),
      c.in_ok-first.ensures.exact.0,
      c.in_ok-first.ensures.onward,
    )

pub map_at-returns-in_err-entry-clause-exact : goal.map_at-returns-in_err-entry-clause-exact
map_at-returns-in_err-entry-clause-exact t c =
    let inv = c.entries.invariant in
    let led = entry_led c.entries.last inv.0 c.args.bytes.now c.entries.place (sym c.leads_entry.ensures ∙ c.entries-test.true) in
    rw (failed_is _ c.from_residual-in_err-entry.ensures.1) (fails_by c.in_err-entry.field-0.0 c.args.bytes.now _ _ (λ stop e. inside_stops a_map (drop
    c.args.at c.args.bytes.now) (sym c.byte_stands.ensures ∙ c.if-byte_stands.false) stop (left_stops inv.1 entry_parts.shrinks led stop e))
    c.in_err-entry.ensures.exact)

pub map_at-entries-preserved : goal.map_at-entries-preserved
map_at-entries-preserved t c =
    let inv = c.entries.invariant in
    let entry = c.in_ok-entry.entry in
    let led = entry_led c.entries.last inv.0 c.args.bytes.now c.entries.place (sym c.leads_entry.ensures ∙ c.entries-test.true) in
    let above = is_higher (c.entries.last, inv.0) (drop (c.entries.place + 1) c.args.bytes.now) (named entry) _
    c.in_ok-entry.ensures.exact.1 in
    let is = c.in_ok-push_entry-2.ensures in (
      plain entry.1,
      left_on inv.1 entry_parts.shrinks led c.in_ok-entry.after (named entry) _ c.in_ok-entry.ensures.exact.1
          (ap (map named) is ∙ map_push named c.entries.entries.items entry),
      subst (λ ns. AreUpTo ns entry.0) (sym (ap names is ∙ map_push (λ (e : List ℕ × Value). e.0) c.entries.entries.items entry))
          (up_to_more _ c.entries.last entry.0 inv.2 above),
      c.in_ok-entry.ensures.exact.0,
      omega (arith, inv.4, c.in_ok-entry.ensures.onward),
    )

pub map_at-returns-in_err-end-clause-exact : goal.map_at-returns-in_err-end-clause-exact
map_at-returns-in_err-end-clause-exact t c =
    let inv = c.entries.invariant in
    let done = left_done inv.1 (entry_last c.entries.last inv.0 (drop c.entries.place c.args.bytes.now)
    (sym c.leads_entry.ensures ∙ c.entries-test.false)) in
    rw (failed_is _ c.from_residual-in_err-end.ensures.1) (fails_by c.in_err-end.field-0.0 c.args.bytes.now _ _ (closing_stops a_map (drop c.args.at
    c.args.bytes.now) (drop c.entries.place c.args.bytes.now) _ (sym c.byte_stands.ensures ∙ c.if-byte_stands.false) done) c.in_err-end.ensures.exact)

pub map_at-returns-clause-exact : goal.map_at-returns-clause-exact
map_at-returns-clause-exact t c =
    let inv = c.entries.invariant in
    let done = left_done inv.1 (entry_last c.entries.last inv.0 (drop c.entries.place c.args.bytes.now)
    (sym c.leads_entry.ensures ∙ c.entries-test.false)) in (
      c.in_ok-end.ensures.exact.0,
      inside_reads a_map (drop c.args.at c.args.bytes.now) (drop c.entries.place c.args.bytes.now) (drop c.in_ok-end.end c.args.bytes.now) _
          (41 ∷ []) (sym c.byte_stands.ensures ∙ c.if-byte_stands.false) done c.in_ok-end.ensures.exact.1
          ∙ ap (λ (es : List (List ℕ × Plain)). Ok (map_of es, drop c.in_ok-end.end c.args.bytes.now)) (sym c.from_ascending.ensures),
    )
