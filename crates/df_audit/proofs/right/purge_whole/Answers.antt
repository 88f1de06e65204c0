use Rattle.df_audit.proofs.Names.{journal_in}
use Rattle.df_audit.proofs.right.purge_whole.Goals as goal

pub returns-in-Ok-purged-clause-tells : goal.returns-in-Ok-purged-clause-tells
returns-in-Ok-purged-clause-tells c = (journal_in c.in-Ok.journal, c.in-Ok.ensures.read, c.in-Ok-purged.ensures)
