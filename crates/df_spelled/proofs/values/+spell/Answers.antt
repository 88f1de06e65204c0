use Rattle.std.proofs.Common.{List, ℕ, arith, sym, subst}
use Rattle.df_frozen.specs.Entries.{IsAscending, names}
use Rattle.df_frozen.specs.Plain.{Plain, from_list, from_pairs}
use Rattle.df_frozen.proofs.Contents.{depth_at, entry_depth_at}
use Rattle.df_spelled.proofs.Walks.{entries_of_all, items_of_all}
use Rattle.df_value_text.specs.Fits.{AreEntries, AreSpelled}
use Rattle.df_spelled.proofs.values.+spell.Goals as goal

pub entries_are_named-value_is_spelled-requires : goal.entries_are_named-value_is_spelled-requires
entries_are_named-value_is_spelled-requires t c =
    (omega (arith, c.decreases, entry_depth_at c.args.entries.now c.loop-entry.entry-index c.entry-item.result c.entry-item.is c.loop-entry-test.true), tt)

pub items_are_spelled-value_is_spelled-requires : goal.items_are_spelled-value_is_spelled-requires
items_are_spelled-value_is_spelled-requires t c =
    (omega (arith, c.decreases, depth_at c.args.values.now c.loop-value.value-index c.value-item.result c.value-item.is c.loop-value-test.true), tt)

pub value_is_spelled-returns-in-Items : goal.value_is_spelled-returns-in-Items
value_is_spelled-returns-in-Items t c =
    rw c.in-Items.is (subst (λ (ps : List Plain). AreSpelled (from_list ps)) c.as_slice-in-Items.ensures
    (items_of_all c.as_slice-in-Items.result.now c.items_are_spelled.ensures))

pub value_is_spelled-returns-in-Map : goal.value_is_spelled-returns-in-Map
value_is_spelled-returns-in-Map t c =
    let es = c.as_slice-in-Map.ensures.value in
    let up = subst (λ (es : List (List ℕ × Plain)). IsAscending (names es)) (sym es) c.as_slice-in-Map.ensures.ascending in
    rw c.in-Map.is (subst (λ (es : List (List ℕ × Plain)). AreEntries (from_pairs es)) es
    (entries_of_all c.as_slice-in-Map.result.now up c.entries_are_named.ensures))
