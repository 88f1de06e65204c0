use Rattle.df_audit.proofs.Names.{journal_in}
use Rattle.df_audit.proofs.check.check_whole.Goals as goal

pub returns-in-Ok-checked-clause-tells : goal.returns-in-Ok-checked-clause-tells
returns-in-Ok-checked-clause-tells c = (journal_in c.in-Ok.journal, c.in-Ok.ensures.read, c.in-Ok-checked.ensures)
