use Rattle.std.proofs.Common.{◌≡◌, take}
use Rattle.df_frozen.specs.Limits.{counted}
use Rattle.df_frozen.proofs.Counts.{names_length}
use Rattle.df_frozen.proofs.entries.Entries.name_byte_count.Given as goal

abbrev pub invariant-loop-entry : goal.invariant-loop-entry
invariant-loop-entry l = l.count ≡ counted (names_length (take l.entry-index l.entry-items))
