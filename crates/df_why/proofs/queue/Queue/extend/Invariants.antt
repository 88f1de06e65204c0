use Rattle.df_why.proofs.Growing.{IsAddedSoFar}
use Rattle.df_why.proofs.queue.Queue.extend.Given as goal

abbrev pub invariant-loop : goal.invariant-loop
invariant-loop l = IsAddedSoFar l.fn.self l.place l.counter l.self-inside.taken l.self-inside.places.items
