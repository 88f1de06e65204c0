use Rattle.df_durable.proofs.Names.{◌-◌, length, IsFront}
use Rattle.df_durable.proofs.opening.core_of.Given as goal

abbrev pub invariant-records : goal.invariant-records
invariant-records l = IsFront l.image l.kept.core l.kept.gate

abbrev pub decreases-records : goal.decreases-records
decreases-records l = length l.image - l.kept.gate
