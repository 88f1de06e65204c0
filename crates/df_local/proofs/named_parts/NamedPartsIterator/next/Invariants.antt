use Rattle.df_local.proofs.Names.{◌≡◌, length, named_in}
use Rattle.df_local.proofs.named_parts.NamedPartsIterator.next.Given as goal

abbrev pub invariant-loop-first : goal.invariant-loop-first
invariant-loop-first l =
    named_in l.self-inside.input.now l.self-inside.named.now l.self-inside.name.now l.self-inside.parts.now
    ≡ named_in l.initial.self-inside.input.now l.initial.self-inside.named.now l.initial.self-inside.name.now l.initial.self-inside.parts.now

abbrev pub decreases-loop-first : goal.decreases-loop-first
decreases-loop-first l = length l.self-inside.parts.now
