use Rattle.df_journal_file.proofs.Names.{◌-◌, length, noted_text, EntriesFrom, IsWholeBy, ArePassed, Onto}
use Rattle.df_journal_file.proofs.file.entries_at.Given as goal

-- the entries so far stand in front of the place, and more of them and an end may stand behind
abbrev pub invariant-entries : goal.invariant-entries
invariant-entries l = ArePassed noted_text (IsWholeBy l.has_notes) l.bytes l.at l.entries.items l.place
    × Onto (EntriesFrom l.has_notes) l.bytes l.at (EntriesFrom l.has_notes) l.place

abbrev pub decreases-entries : goal.decreases-entries
decreases-entries l = length l.bytes - l.place
