use Rattle.df_records.proofs.OneReading.{a_file_is_good, told_is_one}
use Rattle.df_auction.specs.OrderFile.{header, order_of}
use Rattle.df_auction.proofs.laws.an_order_file_is_one_list.Goals as goal

pub returns-clause-orders : goal.returns-clause-orders
returns-clause-orders c = λ bytes some others a b. told_is_one header order_of bytes some others a b

pub returns-clause-good : goal.returns-clause-good
returns-clause-good c = λ bytes orders line a b. a_file_is_good header order_of bytes orders line a b
