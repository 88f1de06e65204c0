use Rattle.df_floor.proofs.Paired.{paired}
use Rattle.df_floor.proofs.laws.each_root_has_a_brain.Goals as goal

pub returns : goal.returns
returns c = λ config ticks in_form. paired config ticks in_form
