use Rattle.df_handles.proofs.Names.{◌≡◌, not, take, filter, is_at, spot}
use Rattle.df_handles.proofs.edits.undrafted.Given as goal

abbrev pub invariant-loop-part : goal.invariant-loop-part
invariant-loop-part l = l.left.items ≡ filter (λ part. not (is_at part (spot l.name l.label))) (take l.part-index l.parts)
