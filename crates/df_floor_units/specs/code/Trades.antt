-- Orders and trades of the floor's traders.
use Rattle.std.specs.Prelude.{◌≡◌, ◌<◌, true}
use Rattle.df_book.specs.declared.order.Order.{Order}
use Rattle.df_book.specs.declared.trade.Trade.{Trade}
use Rattle.df_records.specs.Fields.{is_symbol}

-- a trader's number and a symbol, as the floor can tell them
pub record IsFloorOrder (o : Order) : Type 0 where
  pub symbol : is_symbol o.symbol ≡ true
  pub trader : o.trader < 65_536

-- two traders' numbers and a symbol, as the floor can tell them
pub record IsFloorTrade (t : Trade) : Type 0 where
  pub symbol : is_symbol t.symbol ≡ true
  pub buyer : t.buyer < 65_536
  pub seller : t.seller < 65_536
