use Rattle.df_journal_text.proofs.start.append_head.Goals as goal

pub returns : goal.returns
returns c = c.append_between.ensures
