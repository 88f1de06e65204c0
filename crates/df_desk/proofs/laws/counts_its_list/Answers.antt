use Rattle.df_desk.proofs.Moments.{has_one_list, counts_its_list}
use Rattle.df_desk.proofs.laws.counts_its_list.Goals as goal

pub returns-clause-one : goal.returns-clause-one
returns-clause-one g c = has_one_list g.V.Journaled.origin g.V.Journaled.list

pub returns-clause-count : goal.returns-clause-count
returns-clause-count g c = counts_its_list g.V.Journaled.origin g.V.Journaled.list
