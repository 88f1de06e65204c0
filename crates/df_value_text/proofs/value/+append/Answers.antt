use Rattle.df_value_text.proofs.Names.{◌≡◌, ◌<◌, ℕ, suc, ◌++◌, map, arith, ap, sym, subst, ◌∙◌, length-map, depth, entries_depth, from_pairs, plain, named, joined, value_text, entry_text}
use Rattle.std.proofs.Math.ListN.{get_or-map}
use Rattle.df_frozen.proofs.Contents.{depth_at, entry_depth_at}
use Rattle.df_value_text.proofs.Joins.{item_appended}
use Rattle.df_value_text.proofs.Values.{items_text-joined, entries_text-joined, enclosed, entry_appended}
use Rattle.df_value_text.proofs.value.+append.Goals as goal

pub append_entries-append_value-requires : goal.append_entries-append_value-requires
append_entries-append_value-requires t c =
    omega (arith, c.decreases, entry_depth_at c.args.entries.now c.loop-i.i c.index-entries-i.result c.index-entries-i.is c.loop-i-test.true)

pub append_entries-loop-i-preserved : goal.append_entries-loop-i-preserved
append_entries-loop-i-preserved t c =
    let es = c.args.entries.now in
    let e = c.index-entries-i.result in
    let within = subst (λ (k : ℕ). c.loop-i.i < k) (sym (length-map es named)) c.loop-i-test.true in
    item_appended 44 entry_text (map named es) c.loop-i.i (named e) (named e) within (ap named c.index-entries-i.is ∙ sym (get_or-map named es c.loop-i.i e))
    _ _ _ _ c.loop-i.invariant c.in_ok-append_separator.ensures
    (entry_appended _ _ _ e.0 (value_text (plain e.1)) c.in_ok-append_entry_name.ensures c.in_ok-append_value.ensures)

pub append_items-append_value-requires : goal.append_items-append_value-requires
append_items-append_value-requires t c =
    omega (arith, c.decreases, depth_at c.args.items.now c.loop-i.i c.index-items-i.result c.index-items-i.is c.loop-i-test.true)

pub append_items-loop-i-preserved : goal.append_items-loop-i-preserved
append_items-loop-i-preserved t c =
    let vs = c.args.items.now in
    let v = c.index-items-i.result in
    let within = subst (λ (k : ℕ). c.loop-i.i < k) (sym (length-map vs plain)) c.loop-i-test.true in
    item_appended 44 value_text (map plain vs) c.loop-i.i (plain v) (plain v) within (ap plain c.index-items-i.is ∙ sym (get_or-map plain vs c.loop-i.i v)) _
    _ _ _ c.loop-i.invariant c.in_ok-append_separator.ensures c.in_ok-append_value.ensures

pub append_value-append_entries-requires : goal.append_value-append_entries-requires
append_value-append_entries-requires t c =
    let es = c.in-Map.entries in
    let e : entries_depth (from_pairs (map named c.as_slice-in-Map.result.now)) ≡ entries_depth (from_pairs es) = ap (λ l. entries_depth (from_pairs l))
    c.as_slice-in-Map.ensures.value in
    let d : depth (plain c.args.value.now) ≡ suc (entries_depth (from_pairs es)) = ap (λ v. depth (plain v)) c.in-Map.is in
    (omega (arith, c.decreases, e, d), tt)

pub append_value-returns-in_ok-push-in-Items-2 : goal.append_value-returns-in_ok-push-in-Items-2
append_value-returns-in_ok-push-in-Items-2 t c =
    let is = c.in-Items.items in
    let body = c.in_ok-append_items-in-Items.ensures
    ∙ ap (λ l. c.push.new.self.items ++ l) (ap (joined 44 value_text) c.as_slice-in-Items.ensures ∙ sym (items_text-joined is)) in
    rw c.in-Items.is (enclosed _ _ _ _ _ 91 93 c.in_ok-push-in-Items.ensures.items body c.in_ok-push-in-Items-2.ensures.items)

pub append_value-returns-in_ok-push-in-Map-2 : goal.append_value-returns-in_ok-push-in-Map-2
append_value-returns-in_ok-push-in-Map-2 t c =
    let es = c.in-Map.entries in
    let body = c.in_ok-append_entries-in-Map.ensures
    ∙ ap (λ l. c.push-in-Map.new.self.items ++ l) (ap (joined 44 entry_text) c.as_slice-in-Map.ensures.value ∙ sym (entries_text-joined es)) in
    rw c.in-Map.is (enclosed _ _ _ _ _ 40 41 c.in_ok-push-in-Map.ensures.items body c.in_ok-push-in-Map-2.ensures.items)
