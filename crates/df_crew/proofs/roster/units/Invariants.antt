use Rattle.df_crew.proofs.Names.{◌≡◌, ◌-◌, ◌^◌, List, length, take, IsRoll, UnitName}
use Rattle.df_crew.proofs.roster.units.Given as goal

abbrev pub invariant-loop-unit : goal.invariant-loop-unit
invariant-loop-unit l = (names : List UnitName) → IsRoll l.core names → l.units.items ≡ take (length l.units.items) names

abbrev pub decreases-loop-unit : goal.decreases-loop-unit
decreases-loop-unit l = 2 ^ 64 - length l.units.items
