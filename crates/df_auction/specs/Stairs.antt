-- Demand and supply of one symbol's orders: two stairs, of which one falls with the price.
use Rattle.std.specs.Prelude.{◌-◌, ◌&&◌, ℕ, Bool, true, false, List, pos, ◌≤ℤ◌, ℤ, not, min, nat_le, sum_by, filter, unsigned_abs}
use Rattle.df_book.specs.declared.order.Order.{Order}

-- the limit of an order, which is at least 1
abbrev pub limit_of : Order → ℕ
limit_of o = unsigned_abs o.limit

-- the quantity of an order, which is at least 1
abbrev pub qty_of : Order → ℕ
qty_of o = unsigned_abs o.qty

-- the orders of a side: the sales, or the purchases
abbrev pub is_on : Bool → Order → Bool
is_on true o = o.sell
is_on false o = not o.sell

-- a purchase is an order that is no sale
abbrev pub is_purchase : Order → Bool
is_purchase = is_on false

-- a sale
abbrev pub is_sale : Order → Bool
is_sale = is_on true

-- at the price p buys who has a limit of at least p
abbrev pub buys_at : ℕ → Order → Bool
buys_at p o = is_purchase o && nat_le p (limit_of o)

-- at the price p sells who has a limit of at most p
abbrev pub sells_at : ℕ → Order → Bool
sells_at p o = is_sale o && nat_le (limit_of o) p

-- the quantity of the orders of a kind
abbrev pub qty_among : (Order → Bool) → List Order → ℕ
qty_among P orders = sum_by qty_of (filter P orders)

-- the quantity that is asked for at a price
abbrev pub demand : List Order → ℕ → ℕ
demand orders p = qty_among (buys_at p) orders

-- the quantity that is offered at a price
abbrev pub supply : List Order → ℕ → ℕ
supply orders p = qty_among (sells_at p) orders

-- the volume at a price: the lesser of the two
abbrev pub volume_at : List Order → ℕ → ℕ
volume_at orders p = min (demand orders p) (supply orders p)

-- an order is in range: limit from 1 to 1,000,000,000 and quantity from 1 to 1,000,000
pub record IsInRange (o : Order) : Type 0 where
  pub limit_from : pos 1 ≤ℤ o.limit
  pub limit_to : o.limit ≤ℤ pos 1_000_000_000
  pub qty_from : pos 1 ≤ℤ o.qty
  pub qty_to : o.qty ≤ℤ pos 1_000_000

-- a split certifies a volume: no more is asked for at the split, and no more offered below it
abbrev pub Certifies : List Order → ℤ → ℤ → Type 0
Certifies orders volume split = (pos 1 ≤ℤ split)
    × (pos (demand orders (unsigned_abs split)) ≤ℤ volume)
    × (pos (supply orders (unsigned_abs split - 1)) ≤ℤ volume)
