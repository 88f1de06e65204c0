use Rattle.df_image.proofs.Names.{◌≡◌, take}
use Rattle.df_image.proofs.records.same_roots.Given as goal

abbrev pub invariant-loop-i : goal.invariant-loop-i
invariant-loop-i l = take l.i l.a ≡ take l.i l.b
