use Rattle.df_audit.proofs.Names.{◌≡◌, ◌++◌, take, flat_map, noted_text, head_text, at_places}
use Rattle.df_audit.proofs.why.text_at.Given as goal

-- the entries at the places so far are written
abbrev pub invariant-loop-place : goal.invariant-loop-place
invariant-loop-place l = l.text.items ≡ head_text l.start ++ flat_map noted_text (at_places (take l.place-index l.places) l.notes)
