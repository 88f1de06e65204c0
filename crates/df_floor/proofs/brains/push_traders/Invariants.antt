use Rattle.std.proofs.Common.{◌≡◌, ◌++◌, drop}
use Rattle.df_floor.specs.Brains.{trader_brains}
use Rattle.df_floor.proofs.brains.push_traders.Given as goal

abbrev pub invariant-loop-i : goal.invariant-loop-i
invariant-loop-i l = l.brains.items ++ trader_brains l.i (drop l.i l.traders) ≡ l.fn.brains.items ++ trader_brains 0 l.traders
