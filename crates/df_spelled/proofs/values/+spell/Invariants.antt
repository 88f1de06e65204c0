use Rattle.std.proofs.Common.{ℕ, ◌+◌, ◌*◌, ◌<◌, List, map}
use Rattle.std.specs.Prelude.{slice_index_or}
use Rattle.df_frozen.specs.Plain.{depth, items_depth, entries_depth, from_pairs}
use Rattle.df_frozen.specs.Value.{plain, plain_all, named}
use Rattle.df_frozen.specs.declared.value.Value.{Value}
use Rattle.df_spelled.specs.Spelled.{IsNamed}
use Rattle.df_value_text.specs.Fits.{IsSpelled}
use Rattle.df_spelled.proofs.values.+spell.Given as goal

abbrev pub decreases-value_is_spelled : goal.decreases-value_is_spelled
decreases-value_is_spelled a = 2 * depth (plain a.value.now)

abbrev pub decreases-items_are_spelled : goal.decreases-items_are_spelled
decreases-items_are_spelled a = 2 * items_depth (plain_all a.values.now) + 1

abbrev pub decreases-entries_are_named : goal.decreases-entries_are_named
decreases-entries_are_named a = 2 * entries_depth (from_pairs (map named a.entries.now)) + 1

abbrev pub invariant-items_are_spelled-loop-value : goal.invariant-items_are_spelled-loop-value
invariant-items_are_spelled-loop-value l = (k : ℕ) (d : Value) → k < l.value-index → IsSpelled (plain (slice_index_or l.values k d))

abbrev pub invariant-entries_are_named-loop-entry : goal.invariant-entries_are_named-loop-entry
invariant-entries_are_named-loop-entry l = (k : ℕ) (d : List ℕ × Value) → k < l.entry-index → IsNamed (slice_index_or l.entries k d)
