use Rattle.df_tables.proofs.Names.{◌≡◌, map, take}
use Rattle.df_tables.proofs.commits.places_of.Given as goal

abbrev pub invariant-loop-pair : goal.invariant-loop-pair
invariant-loop-pair l = l.places.items ≡ map (λ p. p.0) (take l.pair-index l.pairs)
