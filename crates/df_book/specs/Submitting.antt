-- What an order does to a book, over the plain list of the resting orders in order of arrival.
use Rattle.std.specs.Prelude.{◌≡◌, zero, suc, ℕ, ℤ, pos, ◌-ℤ◌, int_lt, int_le, Bool, false, not, ◌&&◌, if◌then◌else◌, List, [], ◌∷◌, ◌++◌, length, fold, Contains, Option, Some, None, bytes_eq}
use Rattle.df_book.specs.declared.order.Order.{Order}
use Rattle.df_book.specs.declared.trade.Trade.{Trade}

-- the limits of an incoming order and a resting one let them trade
abbrev pub crosses : Order → Order → Bool
crosses o r =
    if o.sell then not r.sell && int_le o.limit r.limit else r.sell && int_le r.limit o.limit

-- an incoming order may trade with a resting one: of its symbol, and of the other side
abbrev pub meets : Order → Order → Bool
meets o r = bytes_eq o.symbol r.symbol && crosses o r

-- to the incoming order o the limit of r is better than that of q
abbrev pub is_better : Order → Order → Order → Bool
is_better o r q = if o.sell then int_lt q.limit r.limit else int_lt r.limit q.limit

-- an order picked out of a list: those ahead of it, it, and those behind it
pub record Picked : Type 0 where
  pub ahead : List Order
  pub order : Order
  pub behind : List Order

-- the same with one more order ahead
abbrev pub behind_one : Order → Option Picked → Option Picked
behind_one x None = None
behind_one x (Some p) = Some (record p { ahead = x ∷ p.ahead })

-- the first order, unless the one picked of those behind it is better
abbrev pub better_of : Order → Order → List Order → Option Picked → Option Picked
better_of o x xs None = Some (record { ahead = []; order = x; behind = xs })
better_of o x xs (Some p) =
    if is_better o p.order x then behind_one x (Some p)
    else Some (record { ahead = []; order = x; behind = xs })

-- the resting order with which o trades: of the best limit, and the earliest of these
abbrev pub best : Order → List Order → Option Picked
best o [] = None
best o (x ∷ xs) = if meets o x then better_of o x xs (best o xs) else behind_one x (best o xs)

-- what two orders trade: the lesser of what is left of them
abbrev pub lesser : ℤ → ℤ → ℤ
lesser a b = if int_lt a b then a else b

-- a quantity that o trades with a resting order, at the resting order's limit
abbrev pub trade_of : Order → Order → ℤ → Trade
trade_of o r quantity = record {
  price = r.limit;
  qty = quantity;
  symbol = o.symbol;
  buyer = if o.sell then r.trader else o.trader;
  seller = if o.sell then o.trader else r.trader;
}

-- the orders of a list, behind r with what is left of it, if anything is
abbrev pub if_left : ℤ → Order → List Order → List Order
if_left left r behind = if int_lt (pos 0) left then record r { qty = left } ∷ behind else behind

-- the trades of an order, and the orders that rest afterwards
pub record Submitted : Type 0 where
  pub trades : List Trade
  pub resting : List Order

-- the same with one more trade in front
abbrev pub trade_first : Trade → Submitted → Submitted
trade_first t s = record s { trades = t ∷ s.trades }

-- what is left of o rests
abbrev pub rested : Order → ℤ → List Order → Submitted
rested o left book = record { trades = []; resting = book ++ if_left left o [] }

-- o trades with the one picked, which goes where nothing is left of it, and then goes on
abbrev pub met : (ℤ → List Order → Submitted) → Order → ℤ → List Order → Option Picked → Submitted
met more o left book None = rested o left book
met more o left book (Some p) =
    trade_first (trade_of o p.order (lesser left p.order.qty))
    (more (left -ℤ lesser left p.order.qty)
    (p.ahead ++ if_left (p.order.qty -ℤ lesser left p.order.qty) p.order p.behind))

-- o trades while something is left of it. Each trade but the last one uses a resting order up, so
-- that the number of these bounds the number of trades
abbrev pub matched : Order → ℕ → ℤ → List Order → Submitted
matched o zero left book = rested o left book
matched o (suc n) left book =
    if int_lt (pos 0) left then met (matched o n) o left book (best o book)
    else rested o left book

-- what an order does to a book
abbrev pub submitted : Order → List Order → Submitted
submitted o book = matched o (length book) o.qty book

-- what rests after some orders, one after another
abbrev pub resting_after : List Order → List Order
resting_after orders = fold (λ book o. (submitted o book).resting) [] orders

-- no order of a book meets another, so that no purchase's limit reaches a sale's
abbrev pub NoneMeets : List Order → Type 0
NoneMeets book = (a b : Order) → Contains book a → Contains book b → meets a b ≡ false
