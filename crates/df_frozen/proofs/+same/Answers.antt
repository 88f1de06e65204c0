use Rattle.std.proofs.Common.{◌≡◌, ◌<◌, suc, map, length, arith, ap, sym, ◌∙◌}
use Rattle.df_frozen.specs.Plain.{items, entries, from_list, from_pairs, depth, entries_depth}
use Rattle.df_frozen.specs.Value.{plain, named}
use Rattle.df_frozen.proofs.Contents.{items_same, entries_same, same_at, depth_at, entry_depth_at}
use Rattle.df_frozen.proofs.+same.Goals as goal

pub same::same_values-same-is_same-requires : goal.same::same_values-same-is_same-requires
same::same_values-same-is_same-requires t c =
    let within = depth_at c.args.a.now c.loop-i.i c.index-a-i.result c.index-a-i.is c.loop-i-test.true in
    (omega (arith, c.decreases, within), tt)

pub same::same_values-returns-then-not-is_same : goal.same::same_values-returns-then-not-is_same
same::same_values-returns-then-not-is_same t c =
    let a = c.args.a.now in
    let b = c.args.b.now in
    let within : c.loop-i.i < length b = omega arith in
    (λ h. absurd (cc), λ e. c.if-not-is_same.ensures.1 (same_at plain a b c.loop-i.i c.index-a-i.result c.index-b-i.result c.index-a-i.is c.index-b-i.is c.loop-i-test.true within e))

pub value::Value::same-returns-in-Items-Items : goal.value::Value::same-returns-in-Items-Items
value::Value::same-returns-in-Items-Items t c =
    let a = c.as_slice-in-Items-Items.ensures in
    let b = c.as_slice-in-Items-Items-2.ensures in
    rw (c.in-Items-Items.is-0, c.in-Items-Items.is-1) (λ h. ap (λ l. items (from_list l)) (sym a ∙ c.same_values.ensures.0 h ∙ b), λ e. c.same_values.ensures.1 (a ∙ items_same _ _ e ∙ sym b))

pub value::Value::same-same_entries-requires : goal.value::Value::same-same_entries-requires
value::Value::same-same_entries-requires t c =
    let e : entries_depth (from_pairs (map named c.as_slice-in-Map-Map.result.now)) ≡ entries_depth (from_pairs c.in-Map-Map.a) = ap (λ l. entries_depth (from_pairs l)) c.as_slice-in-Map-Map.ensures.value in
    let d : depth (plain c.args.self.now) ≡ suc (entries_depth (from_pairs c.in-Map-Map.a)) = ap (λ v. depth (plain v)) c.in-Map-Map.is-0 in
    (omega (arith, c.decreases, e, d), tt)

pub value::Value::same-returns-in-Map-Map : goal.value::Value::same-returns-in-Map-Map
value::Value::same-returns-in-Map-Map t c =
    let a = c.as_slice-in-Map-Map.ensures.value in
    let b = c.as_slice-in-Map-Map-2.ensures.value in
    rw (c.in-Map-Map.is-0, c.in-Map-Map.is-1) (λ h. ap (λ l. entries (from_pairs l)) (sym a ∙ c.same_entries.ensures.0 h ∙ b), λ e. c.same_entries.ensures.1 (a ∙ entries_same _ _ e ∙ sym b))

pub same::same_entries-same_entry-is_same-requires : goal.same::same_entries-same_entry-is_same-requires
same::same_entries-same_entry-is_same-requires t c =
    let within = entry_depth_at c.args.a.now c.loop-i.i c.index-a-i.result c.index-a-i.is c.loop-i-test.true in
    (omega (arith, c.decreases, within), tt)

pub same::same_entries-returns-then-not-is_same : goal.same::same_entries-returns-then-not-is_same
same::same_entries-returns-then-not-is_same t c =
    let a = c.args.a.now in
    let b = c.args.b.now in
    let within : c.loop-i.i < length b = omega arith in
    (λ h. absurd (cc), λ e. c.if-not-is_same.ensures.1 (same_at named a b c.loop-i.i c.index-a-i.result c.index-b-i.result c.index-a-i.is c.index-b-i.is c.loop-i-test.true within e))
