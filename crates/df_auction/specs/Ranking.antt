-- The rankings of purchases and sales, and the trades that go through them.
use Rattle.std.specs.Prelude.{◌≡◌, ◌+◌, ◌-◌, ◌<◌, ℕ, Bool, List, [], ◌∷◌, if◌then◌else◌, min, nat_lt}
use Rattle.df_book.specs.declared.order.Order.{Order}
use Rattle.df_auction.specs.declared.lot.Fill.{Fill}
use Rattle.df_auction.specs.declared.lot.Lot.{Lot}
use Rattle.df_auction.specs.Stairs.{limit_of, qty_of, is_purchase, is_sale}

-- an order as a lot: its place, its limit, and what is left of it
abbrev pub lot_of : ℕ → Order → Lot
lot_of k o = record { limit = limit_of o; place = k; left = qty_of o }

-- the orders of a kind as lots, the first of them at place k
abbrev pub lots : (Order → Bool) → ℕ → List Order → List Lot
lots P k [] = []
lots P k (o ∷ orders) = if P o then lot_of k o ∷ lots P (k + 1) orders else lots P (k + 1) orders

-- one goes before the first that isn't better
abbrev pub put : {X : Type 0} → (X → X → Bool) → X → List X → List X
put better x [] = x ∷ []
put better x (y ∷ ys) = if better y x then y ∷ put better x ys else x ∷ y ∷ ys

-- a list in rank: the better before the worse, and else in the order in which they came
abbrev pub ranked : {X : Type 0} → (X → X → Bool) → List X → List X
ranked better [] = []
ranked better (x ∷ xs) = put better x (ranked better xs)

-- the better of two purchases has the greater limit
abbrev pub bids_more : Lot → Lot → Bool
bids_more x y = nat_lt y.limit x.limit

-- the better of two sales has the lesser limit
abbrev pub asks_less : Lot → Lot → Bool
asks_less x y = nat_lt x.limit y.limit

-- the purchases, by greater limit and then arrival
abbrev pub purchases : List Order → List Lot
purchases orders = ranked bids_more (lots is_purchase 0 orders)

-- the sales, by lesser limit and then arrival
abbrev pub sales : List Order → List Lot
sales orders = ranked asks_less (lots is_sale 0 orders)

-- lots after a trade of the first, which goes where nothing is left of it
abbrev pub after : ℕ → List Lot → List Lot
after q [] = []
after q (x ∷ xs) = if nat_lt q x.left then record x { left = x.left - q } ∷ xs else xs

-- what is left of the first lot
abbrev pub first_left : List Lot → ℕ
first_left [] = 0
first_left (x ∷ xs) = x.left

-- a purchase and a sale trade the lesser of what is left of the two
abbrev pub fill_of : Lot → Lot → Fill
fill_of x y = record { purchase = x.place; sale = y.place; qty = min x.left y.left }

-- fills that go through two rankings from the front, until a volume is traded
pub data GoesThrough : ℕ → List Lot → List Lot → List Fill → Type 0 where
  done : (xs ys : List Lot) → GoesThrough 0 xs ys []
  trade : (q v : ℕ) (x y : Lot) (xs ys : List Lot) (fills : List Fill)
      → q ≡ min x.left y.left
      → 0 < q
      → GoesThrough v (after q (x ∷ xs)) (after q (y ∷ ys)) fills
      → GoesThrough (q + v) (x ∷ xs) (y ∷ ys) (fill_of x y ∷ fills)
