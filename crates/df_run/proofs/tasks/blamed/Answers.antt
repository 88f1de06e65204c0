use Rattle.df_run.proofs.Names.{refl, subst, a_file_is_good}
use Rattle.df_auction.specs.OrderFile.{IsBadAt, header, order_of}
use Rattle.df_auction.specs.Refusing.{IsRightRefusal}
use Rattle.df_auction.specs.declared.orders.OrdersRefused.{OrdersRefused}
use Rattle.df_run.proofs.tasks.blamed.Goals as goal

pub returns-in-BadOrder : goal.returns-in-BadOrder
returns-in-BadOrder c = λ bytes orders bad.
    let placed : IsBadAt bytes c.in-BadOrder.line = subst (λ (r : OrdersRefused). IsRightRefusal bytes r) c.in-BadOrder.is bad in
    record {
      bad = λ read. a_file_is_good header order_of bytes read.0 c.in-BadOrder.line read.1 placed;
      place = (refl, placed);
    }
