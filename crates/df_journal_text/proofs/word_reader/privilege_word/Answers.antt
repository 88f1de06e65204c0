use Rattle.df_journal_text.proofs.Names.{drop, privilege_at}
use Rattle.df_journal_text.proofs.Words.{privilege_onward, word_read}
use Rattle.df_journal_text.proofs.word_reader.privilege_word.Goals as goal

pub returns-clause-onward : goal.returns-clause-onward
returns-clause-onward c =
    let bytes = c.args.bytes.now in
    privilege_onward bytes c.args.at c.in_ok-privilege.end c.in_ok-privilege.privilege c.in_ok-privilege.ensures.0
    (word_read privilege_at (drop c.args.at bytes) (drop c.in_ok-start.start bytes) c.in_ok-privilege.privilege (drop c.in_ok-privilege.end bytes)
    c.in_ok-start.ensures.exact.1 c.in_ok-privilege.ensures.1)
