use Rattle.df_handles.proofs.Names.{◌≡◌, take, relabelled}
use Rattle.df_handles.proofs.parts.all_relabelled.Given as goal

abbrev pub invariant-loop-part : goal.invariant-loop-part
invariant-loop-part l = l.relabelled.items ≡ relabelled l.output (take l.part-index l.parts)
