use Rattle.std.proofs.Common.{◌≡◌, ◌++◌, drop}
use Rattle.df_floor.specs.Brains.{monitors_of}
use Rattle.df_floor.proofs.brains.push_monitors.Given as goal

abbrev pub invariant-loop-i : goal.invariant-loop-i
invariant-loop-i l = l.brains.items ++ monitors_of l.window l.pairs (drop l.i l.numbers) ≡ l.fn.brains.items ++ monitors_of l.window l.pairs l.numbers
