use Rattle.std.proofs.Common.{◌≡◌, true, drop, map}
use Rattle.std.specs.List.{list_all}
use Rattle.df_frozen.specs.Plain.{from_pairs, no_entries}
use Rattle.df_messages.specs.code.Putting.{content_of, is_good, put_all}
use Rattle.df_messages.proofs.value.entries_of.Given as goal

abbrev pub invariant-loop-field : goal.invariant-loop-field
invariant-loop-field l = record {
  good : list_all is_good (drop l.field-index l.fields) ≡ true;
  rest : put_all (from_pairs l.entries) (map content_of (drop l.field-index l.fields)) ≡ put_all no_entries (map content_of l.fields);
}
