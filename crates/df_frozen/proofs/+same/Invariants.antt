use Rattle.std.proofs.Common.{◌≡◌, ◌+◌, ◌*◌, map, take}
use Rattle.df_frozen.specs.Plain.{depth, items_depth, entries_depth, from_pairs}
use Rattle.df_frozen.specs.Value.{plain, plain_all, named}
use Rattle.df_frozen.proofs.+same.Given as goal

abbrev pub invariant-same::same_values-loop-i : goal.invariant-same::same_values-loop-i
invariant-same::same_values-loop-i l = map plain (take l.i l.a) ≡ map plain (take l.i l.b)

abbrev pub invariant-same::same_entries-loop-i : goal.invariant-same::same_entries-loop-i
invariant-same::same_entries-loop-i l = map named (take l.i l.a) ≡ map named (take l.i l.b)

abbrev pub decreases-value::Value::same : goal.decreases-value::Value::same
decreases-value::Value::same a = 3 * depth (plain a.self.now)

abbrev pub decreases-same::same_values : goal.decreases-same::same_values
decreases-same::same_values a = 3 * items_depth (plain_all a.a.now) + 1

abbrev pub decreases-same::same_entries : goal.decreases-same::same_entries
decreases-same::same_entries a = 3 * entries_depth (from_pairs (map named a.a.now)) + 2

abbrev pub decreases-same::same_entry : goal.decreases-same::same_entry
decreases-same::same_entry a = 3 * depth (plain a.a.now.1) + 1
