use Rattle.df_desk.proofs.Moments.{has_one_holder, tells_holder}
use Rattle.df_desk.proofs.laws.one_holder.Goals as goal

pub returns-clause-one : goal.returns-clause-one
returns-clause-one g c = has_one_holder g.V.Journaled.origin g.V.Journaled.list

pub returns-clause-told : goal.returns-clause-told
returns-clause-told g c = tells_holder g.V.Journaled.origin g.V.Journaled.list
