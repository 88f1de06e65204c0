use Rattle.df_rules.proofs.Names.{rows, roots}
use Rattle.df_rules.proofs.PurgeKeeps.{purge_legal}
use Rattle.df_rules.proofs.RowLaws.{row_laws}
use Rattle.df_rules.proofs.purge_is_legal.Goals as goal

pub returns : goal.returns
returns c = λ start past legal l. purge_legal rows (roots start) (row_laws start) l past legal
