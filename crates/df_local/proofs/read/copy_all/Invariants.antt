use Rattle.df_local.proofs.Names.{◌≡◌, ◌++◌, take}
use Rattle.df_local.proofs.read.copy_all.Given as goal

abbrev pub invariant-loop-p : goal.invariant-loop-p
invariant-loop-p l = l.to.items ≡ l.fn.to.items ++ take l.p-index l.privileges
