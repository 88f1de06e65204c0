use Rattle.std.proofs.Common.{◌≡◌, ◌++◌, take}
use Rattle.df_part.proofs.parts.share_all.Given as goal

abbrev pub invariant-loop-part : goal.invariant-loop-part
invariant-loop-part l = l.to.items ≡ l.fn.to.items ++ take l.part-index l.parts
