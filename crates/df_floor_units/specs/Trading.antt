-- What a trader orders.
use Rattle.std.specs.Prelude.{ℕ, ◌-◌, ◌^◌, Bool, true, false, not, if◌then◌else◌, ℤ, pos, ◌+ℤ◌, ◌-ℤ◌, int_lt}
use Rattle.std.specs.Int.{int_max, int_min}
use Rattle.std.specs.Ordering.{int_eq}
use Rattle.df_floor_units.specs.declared.trader.Trader.{Trader}
use Rattle.df_messages.specs.declared.message.Match.{Match}
use Rattle.df_messages.specs.declared.message.Offer.{Offer}

-- the greatest number of an order, a trade or a limit
abbrev pub greatest : ℤ
greatest = pos (2 ^ 63 - 1)

-- one more, up to the greatest
abbrev pub counted : ℤ → ℤ
counted n = if int_lt n greatest then n +ℤ pos 1 else n

-- whether one of the two is so, and not both
abbrev pub differ : Bool → Bool → Bool
differ true b = not b
differ false b = b

-- a sale goes down to the price less the slack, but not below 1, and a purchase up to the price and
-- the slack
abbrev pub limit_of : Bool → ℤ → ℕ → ℤ
limit_of true price slack = int_max (pos 1) (price -ℤ pos slack)
limit_of false price slack = int_min greatest (price +ℤ pos slack)

-- on side 1 the first symbol is sold and the second bought, on side -1 the reverse, and a contrary
-- trader reverses both
abbrev pub sells : Trader → Match → Bool → Bool
sells t m second = differ second (differ t.contrary (int_eq m.side (pos 1)))

-- the order for the first symbol of a match, or for the second
abbrev pub offer_of : Trader → Match → Bool → Offer
offer_of t m second = record {
  id = t.next_order;
  limit = limit_of (sells t m second) (if second then m.second_price else m.first_price) t.slack;
  qty = t.quantity;
  sell = sells t m second;
  symbol = if second then m.second else m.first;
  trader = pos t.number;
}
