use Rattle.df_value_text.proofs.Names.{◌≡◌, ◌≤◌, length, take, drop, text_at, with_front}
use Rattle.df_value_text.proofs.label_reader.text_at.Given as goal

-- what is left is read as all was to be
abbrev pub invariant-loop-byte : goal.invariant-loop-byte
invariant-loop-byte l = (l.place ≤ length l.bytes) × (with_front (take l.byte-index l.text)
    (text_at (drop l.byte-index l.text) (drop l.place l.bytes)) ≡ text_at l.text (drop l.at l.bytes))
