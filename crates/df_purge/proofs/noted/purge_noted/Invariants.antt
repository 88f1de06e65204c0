use Rattle.df_purge.proofs.Names.{◌≡◌, take, flat_map, left_noted}
use Rattle.df_purge.proofs.noted.purge_noted.Given as goal

-- what stays so far
abbrev pub invariant-loop-kept : goal.invariant-loop-kept
invariant-loop-kept l = l.left.items ≡ flat_map (left_noted l.label) (take l.kept-index l.journal)
