use Rattle.df_journal_text.proofs.Words.{keyword_told}
use Rattle.df_journal_text.proofs.word_reader.keyword_at.Goals as goal

pub returns : goal.returns
returns c = keyword_told c.args.keyword.now c.args.bytes.now c.args.at c.behind.result c.behind.ensures
