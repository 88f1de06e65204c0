use Rattle.df_value_text.proofs.Names.{◌≡◌, ◌+◌, ◌-◌, ◌*◌, ◌<◌, ◌≤◌, List, length, drop, Plain, items, from_list, named, plain}
use Rattle.std.proofs.Common.{map}
use Rattle.df_frozen.specs.Entries.{names}
use Rattle.df_value_text.specs.ReadValue.{leads_value, leads_entry, next_entry_at, value_at}
use Rattle.df_value_text.proofs.Loops.{Left}
use Rattle.df_value_text.proofs.ValueSteps.{AreUpTo, a_list, a_map, all_in}
use Rattle.df_value_text.proofs.value_reader.+read.Given as goal

abbrev pub decreases-value_at : goal.decreases-value_at
decreases-value_at a = 5 * (length a.bytes.now - a.at)

abbrev pub decreases-given_at : goal.decreases-given_at
decreases-given_at a = 5 * (length a.bytes.now - a.at) + 1

abbrev pub decreases-entry_at : goal.decreases-entry_at
decreases-entry_at a = 5 * (length a.bytes.now - a.at) + 2

abbrev pub decreases-next_entry_at : goal.decreases-next_entry_at
decreases-next_entry_at a = 5 * (length a.bytes.now - a.at) + 2

abbrev pub decreases-list_at : goal.decreases-list_at
decreases-list_at a = 5 * (length a.bytes.now - a.at) + 4

abbrev pub decreases-map_at : goal.decreases-map_at
decreases-map_at a = 5 * (length a.bytes.now - a.at) + 4

abbrev pub invariant-list_at-values : goal.invariant-list_at-values
invariant-list_at-values l = (last : Plain)
    × (all : List Plain)
    × (plain l.list ≡ items (from_list all))
    × Left leads_value (λ prev. value_at) (all_in a_list (drop l.at l.bytes)) all last l.bytes l.place
    × (l.place ≤ length l.bytes)
    × (l.at < l.place)

abbrev pub decreases-list_at-values : goal.decreases-list_at-values
decreases-list_at-values l = length l.bytes - l.place

-- the same of entries, whose names ascend to the last one
abbrev pub invariant-map_at-entries : goal.invariant-map_at-entries
invariant-map_at-entries l = (last : Plain)
    × Left leads_entry (λ prev. next_entry_at value_at prev.0) (all_in a_map (drop l.at l.bytes)) (map named l.entries.items) (l.last, last) l.bytes l.place
    × AreUpTo (names l.entries.items) l.last
    × (l.place ≤ length l.bytes)
    × (l.at < l.place)

abbrev pub decreases-map_at-entries : goal.decreases-map_at-entries
decreases-map_at-entries l = length l.bytes - l.place
