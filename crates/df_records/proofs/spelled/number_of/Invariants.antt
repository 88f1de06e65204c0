use Rattle.std.proofs.Common.{◌≡◌, ◌≤◌, drop}
use Rattle.df_records.specs.Fields.{number_from}
use Rattle.df_records.proofs.spelled.number_of.Given as goal

abbrev pub invariant-loop-b : goal.invariant-loop-b
invariant-loop-b l = (number_from l.most l.value (drop l.b-index l.field) ≡ number_from l.most 0 l.field) × (l.value ≤ l.most)
