use Rattle.std.proofs.Common.{◌≡◌, ◌++◌, drop}
use Rattle.df_floor.specs.Starting.{monitor_roots}
use Rattle.df_floor.proofs.start.push_all_monitors.Given as goal

abbrev pub invariant-loop-i : goal.invariant-loop-i
invariant-loop-i l = l.roots.items ++ monitor_roots l.i (drop l.i l.traders) ≡ l.fn.roots.items ++ monitor_roots 0 l.traders
