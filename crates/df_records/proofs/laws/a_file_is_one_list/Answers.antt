use Rattle.df_records.proofs.OneReading.{a_file_is_good, told_is_one}
use Rattle.df_records.proofs.laws.a_file_is_one_list.Goals as goal

pub returns-clause-one : goal.returns-clause-one
returns-clause-one g c = λ header told_of bytes some others a b. told_is_one header told_of bytes some others a b

pub returns-clause-good : goal.returns-clause-good
returns-clause-good g c = λ header told_of bytes told line a b. a_file_is_good header told_of bytes told line a b
