use Rattle.std.proofs.Common.{◌≡◌, ◌++◌, take}
use Rattle.df_part.specs.Contents.{spared}
use Rattle.df_part.proofs.contents.put_spared.Given as goal

abbrev pub invariant-loop-part : goal.invariant-loop-part
invariant-loop-part l = l.to.items ≡ l.fn.to.items ++ spared l.deleted (take l.part-index l.parts)
