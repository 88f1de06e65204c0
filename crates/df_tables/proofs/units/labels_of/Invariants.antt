use Rattle.df_tables.proofs.Names.{◌≡◌, take, inputs}
use Rattle.df_tables.proofs.units.labels_of.Given as goal

abbrev pub invariant-loop-unit : goal.invariant-loop-unit
invariant-loop-unit l = l.labels.items ≡ inputs (take l.unit-index l.units)
