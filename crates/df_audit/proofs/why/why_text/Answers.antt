use Rattle.df_audit.proofs.Names.{journal_in}
use Rattle.df_audit.proofs.why.why_text.Goals as goal

pub returns-in-Ok-explained-clause-tells : goal.returns-in-Ok-explained-clause-tells
returns-in-Ok-explained-clause-tells c = (journal_in c.in-Ok.journal, c.in-Ok.ensures.read, c.in-Ok-explained.ensures)
