use Rattle.std.proofs.Common.{◌≡◌, ◌++◌, map, take}
use Rattle.df_instances.specs.code.Chosen.{instance_at}
use Rattle.df_instances.proofs.instances.put_instances.Given as goal

abbrev pub invariant-loop-set : goal.invariant-loop-set
invariant-loop-set l = l.to.items ≡ l.fn.to.items ++ map (instance_at l.place) (take l.set-index l.sets)
