use Rattle.df_handles.proofs.Names.{◌≡◌, take}
use Rattle.df_handles.proofs.same.same_spots.Given as goal

abbrev pub invariant-loop-i : goal.invariant-loop-i
invariant-loop-i l = take l.i l.a ≡ take l.i l.b
