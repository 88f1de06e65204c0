use Rattle.df_journal_file.proofs.Texts.{same_version}
use Rattle.df_journal_file.proofs.file.is_wanted.Goals as goal

pub returns-in-Some : goal.returns-in-Some
returns-in-Some c = rw c.in-Some.is (same_version c.in-Some.wanted c.args.has_notes)
