use Rattle.std.proofs.Common.{◌≡◌, ◌++◌, drop}
use Rattle.df_floor.specs.Starting.{monitors_of}
use Rattle.df_floor.proofs.start.push_monitors.Given as goal

abbrev pub invariant-loop-i : goal.invariant-loop-i
invariant-loop-i l = l.roots.items ++ monitors_of l.number (drop l.i l.pairs) ≡ l.fn.roots.items ++ monitors_of l.number l.pairs
