use Rattle.std.proofs.Common.{◌≡◌, length}
use Rattle.df_part.specs.Part.{cut}
use Rattle.df_part.proofs.readable_parts.ReadablePartsIterator.next.Given as goal

abbrev pub invariant-loop-first : goal.invariant-loop-first
invariant-loop-first l = cut l.self-inside.at.now l.self-inside.parts.now ≡ cut l.initial.self-inside.at.now l.initial.self-inside.parts.now

abbrev pub decreases-loop-first : goal.decreases-loop-first
decreases-loop-first l = length l.self-inside.parts.now
