-- What the broker does with an order.
use Rattle.std.specs.Prelude.{ℕ, Bool, true, false, ◌&&◌, if◌then◌else◌, List, [], ◌∷◌, Option, Some, None, ℤ, pos, negsuc, int_le, int_lt}
use Rattle.df_book.specs.Submitting.{Submitted, submitted}
use Rattle.df_book.specs.declared.order.Order.{Order}
use Rattle.df_book.specs.declared.trade.Trade.{Trade}
use Rattle.df_messages.specs.Drafts.{fill_draft, trade_draft, who_draft}
use Rattle.df_messages.specs.declared.draft.Draft.{Draft}
use Rattle.df_messages.specs.declared.message.Offer.{Offer}
use Rattle.df_floor_units.specs.declared.broker.Broker.{Broker}

-- whether the broker takes an order: of a trader of the floor, with a quantity and a limit of at
-- least 1
abbrev pub takes : Broker → Offer → Bool
takes b o = int_le (pos 0) o.trader && int_lt o.trader (pos b.traders) && int_le (pos 1) o.qty
    && int_le (pos 1) o.limit

-- a number that isn't negative, without its sign
abbrev pub number_of : ℤ → ℕ
number_of (pos n) = n
number_of (negsuc n) = 0

-- an order as the book takes it
abbrev pub order_of : Offer → Order
order_of o = record {
  id = o.id;
  limit = o.limit;
  qty = o.qty;
  symbol = o.symbol;
  trader = number_of o.trader;
  sell = o.sell;
}

-- an order's trades, and what rests afterwards
abbrev pub submitted_to : Broker → Offer → Submitted
submitted_to b o = submitted (order_of o) b.book

-- the broker after an order
abbrev pub after_offer : Broker → Offer → Broker
after_offer b o = if takes b o then record b { book = (submitted_to b o).resting } else b

-- the event that tells a trade: to everybody, to the regulator, to the buyer and to the seller
abbrev pub trade_event : ℤ → Trade → List Draft
trade_event number t = trade_draft number t ∷ who_draft t ∷ fill_draft number t false
    ∷ fill_draft number t true ∷ []

-- the event of a trade, if there is one
abbrev pub trade_parts : ℤ → Option Trade → List Draft
trade_parts number None = []
trade_parts number (Some t) = trade_event number t
