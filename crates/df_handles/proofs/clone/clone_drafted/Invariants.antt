use Rattle.df_handles.proofs.Names.{◌≡◌, ◌++◌, take, cloned}
use Rattle.df_handles.proofs.clone.clone_drafted.Given as goal

abbrev pub invariant-loop-part : goal.invariant-loop-part
invariant-loop-part l = l.to.items ≡ l.fn.to.items ++ cloned l.output l.label (take l.part-index l.parts)
