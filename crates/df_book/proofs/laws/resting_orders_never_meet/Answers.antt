use Rattle.df_book.proofs.Calm.{none_meets, after_is_calm}
use Rattle.df_book.proofs.laws.resting_orders_never_meet.Goals as goal

pub returns : goal.returns
returns c = λ orders. none_meets _ (after_is_calm orders)
