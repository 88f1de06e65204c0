use Rattle.df_settling.proofs.Names.{arith}
use Rattle.df_settling.proofs.Bound.{settles}
use Rattle.df_settling.proofs.floors_settle.Goals as goal

pub returns : goal.returns
returns c = record { bound = settles; four_thousand = λ n h. omega arith }
