use Rattle.df_settling.proofs.Names.{arith}
use Rattle.df_settling.proofs.Balanced.{all_used_up, balanced}
use Rattle.df_settling.proofs.trades_use_orders_up.Goals as goal

pub returns : goal.returns
returns c = record { one = λ o book. let e = balanced o book in omega arith; all = all_used_up }
