use Rattle.df_rules.proofs.Names.{rows, roots}
use Rattle.df_rules.proofs.Exercised.{exercised}
use Rattle.df_rules.proofs.ReleaseLaws.{row_release_laws}
use Rattle.df_rules.proofs.RowLaws.{row_laws}
use Rattle.df_rules.proofs.purge_exercises.Goals as goal

pub returns : goal.returns
returns c = λ start past l u call r f k legal h. exercised rows (roots start) (row_laws start) (row_release_laws start) l past u call r f k legal h
