use Rattle.std.proofs.Common.{◌≡◌, ◌++◌}
use Rattle.df_part.specs.Part.{cut}
use Rattle.df_part.proofs.contents.seen.Given as goal

abbrev pub invariant-loop-part : goal.invariant-loop-part
invariant-loop-part l = l.seen.items ++ l.part-iterator ≡ cut l.at l.contents
