use Rattle.std.proofs.Common.{◌≡◌, ◌++◌, drop, map}
use Rattle.df_start.specs.Begun.{begun}
use Rattle.df_tables.specs.Table.{rows_from}
use Rattle.df_machine.proofs.tables.first_units.Given as goal

abbrev pub invariant-loop-number : goal.invariant-loop-number
invariant-loop-number l = l.units.items ++ rows_from l.number (map begun (drop l.number l.roots)) ≡ rows_from 0 (map begun l.roots)
