use Rattle.std.proofs.Common.{◌≡◌, drop}
use Rattle.df_spawn.specs.Child.{lacking_authority}
use Rattle.df_spawn.proofs.child.lacking_authority.Given as goal

abbrev pub invariant-loop-p : goal.invariant-loop-p
invariant-loop-p l = lacking_authority l.held (drop l.p-index l.p-items) ≡ lacking_authority l.held l.privileges
