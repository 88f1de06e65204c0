use Rattle.std.proofs.Common.{◌∙◌}
use Rattle.df_index.proofs.Pairs.{is_ok-searched}
use Rattle.df_index.proofs.due.has_pair.Goals as goal

pub returns : goal.returns
returns c = c.is_ok.ensures.value ∙ is_ok-searched c.args.handed.now c.args.pair c.binary_search.result c.requires c.binary_search.ensures.bound c.binary_search.ensures.position
