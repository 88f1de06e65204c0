use Rattle.df_handles.proofs.Names.{◌≡◌, take, shown_in}
use Rattle.df_handles.proofs.read.shown_in.Given as goal

abbrev pub invariant-loop-part : goal.invariant-loop-part
invariant-loop-part l = l.shown.items ≡ shown_in l.input l.name l.named (take l.part-index l.seen)
