use Rattle.df_handles.proofs.Names.{◌≡◌, take, all_shown}
use Rattle.df_handles.proofs.copies.copies.Given as goal

abbrev pub invariant-loop-slot : goal.invariant-loop-slot
invariant-loop-slot l = all_shown l.copies.items ≡ all_shown (take l.slot-index l.slots)
