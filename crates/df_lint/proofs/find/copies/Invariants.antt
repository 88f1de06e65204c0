use Rattle.df_lint.proofs.Names.{◌≡◌, take}
use Rattle.df_lint.proofs.find.copies.Given as goal

abbrev pub invariant-loop-root : goal.invariant-loop-root
invariant-loop-root l = l.copies.items ≡ take l.root-index l.roots
