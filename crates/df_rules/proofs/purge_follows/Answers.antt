use Rattle.df_rules.proofs.Names.{rows, roots}
use Rattle.df_rules.proofs.FollowsAgain.{purge_follows}
use Rattle.df_rules.proofs.RowLaws.{row_laws}
use Rattle.df_rules.specs.Follows.{brain_of}
use Rattle.df_rules.proofs.purge_follows.Goals as goal

pub returns : goal.returns
returns g c = λ start past bs l h. purge_follows (brain_of g.B.StepFunction.next g.B.StepFunction.instance) rows (roots start) bs (row_laws start) l past h
