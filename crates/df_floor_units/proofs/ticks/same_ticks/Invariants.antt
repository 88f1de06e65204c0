use Rattle.std.proofs.Common.{◌≡◌, take}
use Rattle.df_floor_units.proofs.ticks.same_ticks.Given as goal

abbrev pub invariant-loop-i : goal.invariant-loop-i
invariant-loop-i l = take l.i l.a ≡ take l.i l.b
