use Rattle.df_rules.proofs.Names.{◌∷◌, rows, roots, Done}
use Rattle.df_rules.proofs.Exercised.{exercised}
use Rattle.df_rules.proofs.Places.{legal_before}
use Rattle.df_rules.proofs.PurgeKeeps.{purge_keeps, purge_legal}
use Rattle.df_rules.proofs.ReleaseLaws.{row_release_laws}
use Rattle.df_rules.proofs.RowLaws.{row_laws}
use Rattle.df_rules.proofs.legal_journals_separate.Goals as goal

pub returns : goal.returns
returns c = λ start past legal l. record {
  legal = purge_legal rows (roots start) (row_laws start) l past legal;
  keeps = purge_keeps rows (roots start) (row_laws start) l past;
  exercised = λ newer older u call r f k same h. exercised rows (roots start) (row_laws start) (row_release_laws start) l older u call r f k (legal_before rows (roots start) past legal newer (Done u call r f ∷ older) same) h;
}
