use Rattle.df_handles.proofs.Names.{◌≡◌, ◌+◌, drop, least_free, all_shown}
use Rattle.df_handles.proofs.places.least_free.Given as goal

abbrev pub invariant-loop-h : goal.invariant-loop-h
invariant-loop-h l = l.h + least_free (all_shown (drop l.h l.slots)) ≡ least_free (all_shown l.fn.slots)
