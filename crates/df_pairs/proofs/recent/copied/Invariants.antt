use Rattle.std.proofs.Common.{◌≡◌, ◌≤◌, take}
use Rattle.std.specs.VecDeque.{deque_len, deque_capacity}
use Rattle.df_pairs.proofs.recent.copied.Given as goal

abbrev pub invariant-loop-i : goal.invariant-loop-i
invariant-loop-i l = (l.to.items ≡ take l.i l.from.items) × (deque_len l.to ≡ l.i) × (l.window ≤ deque_capacity l.to)
