use Rattle.df_handles.proofs.Names.{◌≡◌, ◌++◌, take, cloned, visible_in}
use Rattle.df_handles.proofs.clone.clone_visible_in.Given as goal

abbrev pub invariant-loop-part : goal.invariant-loop-part
invariant-loop-part l = l.to.items ≡ l.fn.to.items ++ cloned l.output l.label (visible_in l.input l.named (take l.part-index l.seen))
