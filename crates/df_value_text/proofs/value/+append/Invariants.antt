use Rattle.df_value_text.proofs.Names.{◌≡◌, ◌+◌, ◌*◌, ◌++◌, map, take, depth, items_depth, entries_depth, from_pairs, plain, plain_all, named, joined, value_text, entry_text}
use Rattle.df_value_text.proofs.value.+append.Given as goal

abbrev pub decreases-append_value : goal.decreases-append_value
decreases-append_value a = 2 * depth (plain a.value.now)

abbrev pub decreases-append_items : goal.decreases-append_items
decreases-append_items a = 2 * items_depth (plain_all a.items.now) + 1

abbrev pub decreases-append_entries : goal.decreases-append_entries
decreases-append_entries a = 2 * entries_depth (from_pairs (map named a.entries.now)) + 1

abbrev pub invariant-append_items-loop-i : goal.invariant-append_items-loop-i
invariant-append_items-loop-i l = l.to.items ≡ l.fn.to.items ++ joined 44 value_text (take l.i (map plain l.items))

abbrev pub invariant-append_entries-loop-i : goal.invariant-append_entries-loop-i
invariant-append_entries-loop-i l = l.to.items ≡ l.fn.to.items ++ joined 44 entry_text (take l.i (map named l.entries))
