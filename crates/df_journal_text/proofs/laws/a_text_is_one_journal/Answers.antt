use Rattle.df_journal_text.proofs.JournalBacks.{journal_is_one}
use Rattle.df_journal_text.proofs.laws.a_text_is_one_journal.Goals as goal

pub returns : goal.returns
returns c = journal_is_one
