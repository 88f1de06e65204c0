use Rattle.std.proofs.Common.{◌≡◌, ◌++◌, take}
use Rattle.df_managed.specs.code.Chosen.{secrets_of}
use Rattle.df_managed.proofs.secrets.put_secrets.Given as goal

abbrev pub invariant-loop-part : goal.invariant-loop-part
invariant-loop-part l = l.to.items ≡ l.fn.to.items ++ secrets_of l.integrity l.clause (take l.part-index l.parts)
