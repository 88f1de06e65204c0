use Rattle.df_audit.proofs.Names.{◌≡◌, ◌++◌, take, flat_map, noted_text}
use Rattle.df_audit.proofs.text.write_notes.Given as goal

-- the entries so far are written
abbrev pub invariant-loop-noted : goal.invariant-loop-noted
invariant-loop-noted l = l.to.items ≡ l.initial.to.items ++ flat_map noted_text (take l.noted-index l.notes)
