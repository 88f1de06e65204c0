use Rattle.df_pairs.proofs.Windows.{remembered-is, signals-are}
use Rattle.df_pairs.proofs.laws.the_window_serves_for_all_spreads.Goals as goal

pub returns-clause-remembers : goal.returns-clause-remembers
returns-clause-remembers c = λ window threshold past. remembered-is window threshold past

pub returns-clause-signals : goal.returns-clause-signals
returns-clause-signals c = λ window threshold t past. signals-are window threshold t past
