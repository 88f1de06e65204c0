use Rattle.df_lint.proofs.Names.{◌≡◌, ℕ, List, map, take, names, contains, begun}
use Rattle.df_lint.proofs.tags.tags_of.Given as goal

abbrev pub invariant-loop-root : goal.invariant-loop-root
invariant-loop-root l = (t : List ℕ) → contains l.tags t ≡ names (map begun (take l.root-index l.roots)) t
