use Rattle.df_rules.proofs.Names.{rows, roots}
use Rattle.df_rules.proofs.PurgeKeeps.{purge_keeps}
use Rattle.df_rules.proofs.RowLaws.{row_laws}
use Rattle.df_rules.proofs.purge_keeps.Goals as goal

pub returns : goal.returns
returns c = λ start past l. purge_keeps rows (roots start) (row_laws start) l past
