use Rattle.std.proofs.Common.{◌≡◌, drop}
use Rattle.std.specs.List.{list_any}
use Rattle.df_report.specs.Summing.{acts}
use Rattle.df_report.proofs.instances.acts_from.Given as goal

abbrev pub invariant-loop-i : goal.invariant-loop-i
invariant-loop-i l = list_any (acts l.name) (drop l.i l.entries) ≡ list_any (acts l.name) (drop l.fn.from l.entries)
