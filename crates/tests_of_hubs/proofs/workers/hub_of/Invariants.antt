use Rattle.std.proofs.Common.{◌≡◌, length}
use Rattle.tests_of_hubs.proofs.workers.hub_of.Given as goal

abbrev pub invariant-loop-number : goal.invariant-loop-number
invariant-loop-number l = (length l.roots.items ≡ l.number) × (length l.brains.items ≡ l.number)
