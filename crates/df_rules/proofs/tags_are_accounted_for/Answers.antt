use Rattle.df_rules.proofs.Names.{rows, roots}
use Rattle.df_rules.proofs.Exercised.{own_kept}
use Rattle.df_rules.proofs.ReleaseLaws.{row_release_laws}
use Rattle.df_rules.proofs.RowLaws.{row_laws}
use Rattle.df_rules.proofs.tags_are_accounted_for.Goals as goal

pub returns : goal.returns
returns c = λ start past u st h. own_kept rows (roots start) (row_laws start) (row_release_laws start) past u st h
