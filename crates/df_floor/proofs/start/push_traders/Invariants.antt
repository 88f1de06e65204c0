use Rattle.std.proofs.Common.{◌≡◌, ◌++◌, drop}
use Rattle.df_floor.specs.Starting.{trader_roots}
use Rattle.df_floor.proofs.start.push_traders.Given as goal

abbrev pub invariant-loop-i : goal.invariant-loop-i
invariant-loop-i l = l.roots.items ++ trader_roots l.i (drop l.i l.traders) ≡ l.fn.roots.items ++ trader_roots 0 l.traders
