use Rattle.std.proofs.Common.{◌≡◌, ◌++◌, map, take}
use Rattle.df_label.specs.TagSet.{union}
use Rattle.df_managed.proofs.chosen.join_one.Given as goal

abbrev pub invariant-loop-secret : goal.invariant-loop-secret
invariant-loop-secret l = l.to.items ≡ l.fn.to.items ++ map (union l.set) (take l.secret-index l.secrets)
