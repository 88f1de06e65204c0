use Rattle.std.proofs.Common.{◌≡◌, ◌++◌, drop}
use Rattle.df_floor.specs.Brains.{monitor_brains}
use Rattle.df_floor.proofs.brains.push_all_monitors.Given as goal

abbrev pub invariant-loop-i : goal.invariant-loop-i
invariant-loop-i l =
    l.brains.items ++ monitor_brains l.config.window l.config.pairs (drop l.i l.config.traders)
    ≡ l.fn.brains.items ++ monitor_brains l.config.window l.config.pairs l.config.traders
