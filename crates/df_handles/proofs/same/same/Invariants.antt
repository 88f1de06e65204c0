use Rattle.df_handles.proofs.Names.{◌≡◌, take, all_shown}
use Rattle.df_handles.proofs.same.same.Given as goal

abbrev pub invariant-loop-i : goal.invariant-loop-i
invariant-loop-i l = take l.i (all_shown l.a) ≡ take l.i (all_shown l.b)
