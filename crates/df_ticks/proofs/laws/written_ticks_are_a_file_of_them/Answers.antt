use Rattle.df_ticks.proofs.Written.{written_is_read}
use Rattle.df_ticks.proofs.laws.written_ticks_are_a_file_of_them.Goals as goal

pub returns : goal.returns
returns c = λ ticks all. written_is_read ticks all
