use Rattle.df_audit.proofs.Names.{journal_in}
use Rattle.df_audit.proofs.right.upgrade_whole.Goals as goal

pub returns-in-Ok-upgraded-clause-tells : goal.returns-in-Ok-upgraded-clause-tells
returns-in-Ok-upgraded-clause-tells c = (journal_in c.in-Ok.journal, c.in-Ok.ensures.read, c.in-Ok-upgraded.ensures)
