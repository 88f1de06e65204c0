use Rattle.df_journal_text.proofs.Names.{◌≡◌, ◌≤◌, [], length, drop, with_front, each_privilege_at, ◌-◌}
use Rattle.df_journal_text.proofs.word_reader.each_privilege_at.Given as goal

-- what is left is read as all was to be
abbrev pub invariant-words : goal.invariant-words
invariant-words l =
    (with_front l.privileges.items (each_privilege_at (drop l.place l.bytes)) ≡ with_front [] (each_privilege_at (drop l.at l.bytes)))
    × (l.place ≤ length l.bytes)

abbrev pub decreases-words : goal.decreases-words
decreases-words l = length l.bytes - l.place
