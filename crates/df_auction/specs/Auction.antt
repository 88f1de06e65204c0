-- The outcome of an auction, and what makes it the best.
use Rattle.std.specs.Prelude.{◌≡◌, ◌+◌, ◌-◌, ◌^◌, ◌<◌, ◌≤◌, ◌==◌, ℕ, true, false, List, [], ◌∷◌, if◌then◌else◌, map, Option, option_map, unwrap_or, pos, All, Contains, length, MatchOption}
use Rattle.df_book.specs.declared.order.Order.{Order}
use Rattle.df_book.specs.declared.trade.Trade.{Trade}
use Rattle.df_auction.specs.declared.lot.Fill.{Fill}
use Rattle.df_auction.specs.declared.outcome.Auction.{Auction}
use Rattle.df_auction.specs.Stairs.{limit_of, qty_of, demand, supply, volume_at, IsInRange}
use Rattle.df_auction.specs.Matching.{read_at, bought, sold, total, qty_at, IsMatching}
use Rattle.df_auction.specs.Ranking.{purchases, sales, GoesThrough}

-- orders that an auction takes: of one symbol, fewer than 2^32, each in range
pub record IsMarket (orders : List Order) : Type 0 where
  pub few : length orders < 2 ^ 32
  pub in_range : All IsInRange orders
  pub one_symbol : (a b : Order) → Contains orders a → Contains orders b → a.symbol ≡ b.symbol

-- what an auction settles: volume, price (if there is one), split, and who trades with whom
pub record Settlement : Type 0 where
  pub volume : ℕ
  pub price : Option ℕ
  pub split : ℕ
  pub fills : List Fill

-- the least price with a volume that is more than nothing
pub record IsLeastPrice (orders : List Order) (volume p : ℕ) : Type 0 where
  pub from_one : 1 ≤ p
  pub trades : 0 < volume
  pub reaches : volume_at orders p ≡ volume
  pub least : (q : ℕ) → q < p → volume_at orders q < volume

-- the least price, from 1 on, at which no more than a volume is asked for
pub record IsLeastSplit (orders : List Order) (volume r : ℕ) : Type 0 where
  pub from_one : 1 ≤ r
  pub fits : demand orders r ≤ volume
  pub least : (q : ℕ) → 1 ≤ q → q < r → volume < demand orders q

-- the settlement that the orders call for
pub record IsSettlement (orders : List Order) (s : Settlement) : Type 0 where
  pub greatest : (p : ℕ) → volume_at orders p ≤ s.volume
  pub price : MatchOption s.price (s.volume ≡ 0) (IsLeastPrice orders s.volume)
  pub split : IsLeastSplit orders s.volume s.split
  pub fills : GoesThrough s.volume (purchases orders) (sales orders) s.fills

-- a fill as a trade, at the price
abbrev pub trade_of : List Order → ℕ → Fill → Trade
trade_of orders p f = record {
  symbol = read_at (λ o. o.symbol) [] orders f.purchase;
  price = pos p;
  qty = pos f.qty;
  buyer = read_at (λ o. o.trader) 0 orders f.purchase;
  seller = read_at (λ o. o.trader) 0 orders f.sale;
}

-- what fills leave of the order at a place
abbrev pub left_of : List Fill → ℕ → Order → ℕ
left_of fills k o = qty_of o - (bought k fills + sold k fills)

-- the orders from place k on with what is left of them, without those that have nothing left
abbrev pub rest_from : ℕ → List Fill → List Order → List Order
rest_from k fills [] = []
rest_from k fills (o ∷ orders) =
    if left_of fills k o == 0 then rest_from (k + 1) fills orders
    else record o { qty = pos (left_of fills k o) } ∷ rest_from (k + 1) fills orders

-- the orders with what is left of them
abbrev pub rest_of : List Order → List Fill → List Order
rest_of orders fills = rest_from 0 fills orders

-- a settlement as the auction shows it
abbrev pub shown : List Order → Settlement → Auction
shown orders s = record {
  price = option_map pos s.price;
  volume = pos s.volume;
  split = pos s.split;
  trades = map (trade_of orders (unwrap_or s.price 0)) s.fills;
  rest = rest_of orders s.fills;
}

-- no purchase of these orders has a limit that is at least the limit of a sale
abbrev pub CannotTrade : List Order → Type 0
CannotTrade orders =
    (a b : Order) → Contains orders a → Contains orders b
    → a.sell ≡ false → b.sell ≡ true → limit_of a < limit_of b

-- what makes a settlement the best
pub record IsBest (orders : List Order) (s : Settlement) : Type 0 where
  -- its fills are a matching at the price, and there are none where there is no price
  pub matching : MatchOption s.price (s.fills ≡ []) (λ p. IsMatching orders p s.fills)
  pub in_total : total s.fills ≡ s.volume
  -- no matching at any one price has a greater total
  pub best : (p : ℕ) (fills : List Fill) → IsMatching orders p fills → total fills ≤ s.volume
  -- the split shows it
  pub asked : demand orders s.split ≤ s.volume
  pub offered : supply orders (s.split - 1) ≤ s.volume
  -- no order gets or gives more than its quantity, and what it doesn't is left of it
  pub within : (k : ℕ) → bought k s.fills + sold k s.fills ≤ qty_at (λ o. true) orders k
  pub apart : CannotTrade (rest_of orders s.fills)

-- an auction shows the settlement that the orders call for, which is the best
pub record Settles (orders : List Order) (a : Auction) : Type 0 where
  pub settlement : Settlement
  pub shows : a ≡ shown orders settlement
  pub called_for : IsSettlement orders settlement
  pub best : IsBest orders settlement
