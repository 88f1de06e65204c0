use Rattle.std.proofs.Common.{◌≡◌, take}
use Rattle.df_why.proofs.why.ascending.Given as goal

abbrev pub invariant-loop-place : goal.invariant-loop-place
invariant-loop-place l = (l.places.items ≡ take l.place-index l.picked)
