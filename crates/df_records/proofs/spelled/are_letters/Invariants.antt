use Rattle.std.proofs.Common.{◌≡◌, drop}
use Rattle.df_records.specs.Fields.{are_letters}
use Rattle.df_records.proofs.spelled.are_letters.Given as goal

abbrev pub invariant-loop-b : goal.invariant-loop-b
invariant-loop-b l = are_letters (drop l.b-index l.bytes) ≡ are_letters l.bytes
