use Rattle.df_journal_text.proofs.JournalBacks.{journal_back}
use Rattle.df_journal_text.proofs.laws.a_journal_is_read_back.Goals as goal

pub returns : goal.returns
returns c = journal_back
