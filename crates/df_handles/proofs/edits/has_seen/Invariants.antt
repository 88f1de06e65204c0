use Rattle.df_handles.proofs.Names.{◌≡◌, drop, spot, has_seen}
use Rattle.df_handles.proofs.edits.has_seen.Given as goal

abbrev pub invariant-loop-part : goal.invariant-loop-part
invariant-loop-part l = has_seen l.input l.named (spot l.name l.label) (drop l.part-index l.seen) ≡ has_seen l.input l.named (spot l.name l.label) l.seen
