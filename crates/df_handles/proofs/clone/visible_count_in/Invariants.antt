use Rattle.df_handles.proofs.Names.{◌≡◌, ◌≤◌, length, take, visible_in}
use Rattle.df_handles.proofs.clone.visible_count_in.Given as goal

abbrev pub invariant-loop-part : goal.invariant-loop-part
invariant-loop-part l = (l.count ≡ length (visible_in l.input l.named (take l.part-index l.seen))) × (l.count ≤ l.part-index)
