use Rattle.df_handles.proofs.Names.{◌≡◌, map, take, attach, spot}
use Rattle.df_handles.proofs.edits.attached.Given as goal

abbrev pub invariant-loop-part : goal.invariant-loop-part
invariant-loop-part l = l.attached.items ≡ map (attach (spot l.name l.label) l.p) (take l.part-index l.parts)
