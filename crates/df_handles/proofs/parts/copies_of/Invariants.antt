use Rattle.df_handles.proofs.Names.{◌≡◌, take}
use Rattle.df_handles.proofs.parts.copies_of.Given as goal

abbrev pub invariant-loop-spot : goal.invariant-loop-spot
invariant-loop-spot l = l.copies.items ≡ take l.spot-index l.spots
