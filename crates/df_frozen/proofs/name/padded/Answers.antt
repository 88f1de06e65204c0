use Rattle.df_frozen.specs.code.NameBytes.{IsKept-copied}
use Rattle.df_frozen.proofs.name.padded.Goals as goal

pub invariant_of-result : goal.invariant_of-result
invariant_of-result c = rw c.copy_from_slice.ensures.after (IsKept-copied _ c.requires)
