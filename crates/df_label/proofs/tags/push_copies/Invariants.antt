use Rattle.std.proofs.Common.{◌≡◌, ◌++◌, take}
use Rattle.df_label.proofs.tags.push_copies.Given as goal

abbrev pub invariant-loop-t : goal.invariant-loop-t
invariant-loop-t l = l.to.items ≡ l.initial.to.items ++ take l.t-index l.tags
