use Rattle.df_records.proofs.OneReading.{a_file_is_good, told_is_one}
use Rattle.df_ticks.specs.TickFile.{header, tick_of}
use Rattle.df_ticks.proofs.laws.a_tick_file_is_one_list.Goals as goal

pub returns-clause-ticks : goal.returns-clause-ticks
returns-clause-ticks c = λ bytes some others a b. told_is_one header tick_of bytes some others a b

pub returns-clause-good : goal.returns-clause-good
returns-clause-good c = λ bytes ticks line a b. a_file_is_good header tick_of bytes ticks line a b
