use Rattle.df_handles.proofs.Names.{◌≡◌, take}
use Rattle.df_handles.proofs.copies.drafts_copied.Given as goal

abbrev pub invariant-loop-part : goal.invariant-loop-part
invariant-loop-part l = l.copies.items ≡ take l.part-index l.parts
