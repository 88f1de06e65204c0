use Rattle.std.proofs.Common.{◌≡◌, ◌++◌, take}
use Rattle.df_managed.specs.code.Chosen.{joins}
use Rattle.df_managed.proofs.chosen.join_each.Given as goal

abbrev pub invariant-loop-set : goal.invariant-loop-set
invariant-loop-set l = l.to.items ≡ l.fn.to.items ++ joins (take l.set-index l.sets) l.secrets
