use Rattle.df_roll.proofs.Names.{◌≡◌, drop, slice_get, joined, names_in}
use Rattle.df_roll.proofs.chunks.unit_at.Given as goal

-- the unit is that at the place in what is left
abbrev pub invariant-loop-chunk : goal.invariant-loop-chunk
invariant-loop-chunk l = slice_get (names_in (joined (drop l.chunk-index l.chunks))) l.rest ≡ slice_get (names_in (joined l.chunks)) l.fn.k
