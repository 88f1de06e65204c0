use Rattle.std.proofs.Common.{◌≡◌, take}
use Rattle.df_replay.proofs.steps.copy_roots.Given as goal

-- copied so far
abbrev pub invariant-loop-root : goal.invariant-loop-root
invariant-loop-root l = l.copies.items ≡ take l.root-index l.roots
