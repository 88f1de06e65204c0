use Rattle.df_journal_file.proofs.file.either_whole.Goals as goal

pub returns-then-has_notes-clause-read : goal.returns-then-has_notes-clause-read
returns-then-has_notes-clause-read c = rw c.if-has_notes.true at c.in_ok-has_notes.ensures.read

pub returns-clause-read : goal.returns-clause-read
returns-clause-read c = rw c.in_ok-entries.ensures (rw c.if-has_notes.false at c.in_ok-has_notes.ensures.read)
