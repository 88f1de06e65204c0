use Rattle.df_journal_file.proofs.file.noted_whole.Goals as goal

pub returns-clause-read : goal.returns-clause-read
returns-clause-read c = rw (← c.in_ok-start.ensures.version) at c.in_ok-start.ensures.read
