-- What a matching gives to pairs of a purchase and a sale, by their places in the list of orders.
use Rattle.std.specs.Prelude.{◌≤◌, ◌==◌, ℕ, suc, zero, Bool, List, [], ◌∷◌, if◌then◌else◌, sum_by}
use Rattle.df_book.specs.declared.order.Order.{Order}
use Rattle.df_auction.specs.declared.lot.Fill.{Fill}
use Rattle.df_auction.specs.Stairs.{limit_of, qty_of, buys_at, sells_at}

-- what is read of the order at a place
abbrev pub read_at : {X : Type 0} → (Order → X) → X → List Order → ℕ → X
read_at f d [] k = d
read_at f d (o ∷ orders) zero = f o
read_at f d (o ∷ orders) (suc k) = read_at f d orders k

-- the limit of the order at a place
abbrev pub limit_at : List Order → ℕ → ℕ
limit_at orders k = read_at limit_of 0 orders k

-- the quantity of the order at a place, if it is of a kind
abbrev pub qty_at : (Order → Bool) → List Order → ℕ → ℕ
qty_at P orders k = read_at (λ o. if P o then qty_of o else 0) 0 orders k

-- what the fills give to one place, told by their side
abbrev pub given : (Fill → ℕ) → ℕ → List Fill → ℕ
given side k fills = sum_by (λ f. if side f == k then f.qty else 0) fills

-- what the purchase at a place gets
abbrev pub bought : ℕ → List Fill → ℕ
bought k fills = given (λ f. f.purchase) k fills

-- what the sale at a place gives
abbrev pub sold : ℕ → List Fill → ℕ
sold k fills = given (λ f. f.sale) k fills

-- the quantity of all fills
abbrev pub total : List Fill → ℕ
total fills = sum_by (λ f. f.qty) fills

-- a matching at a price: each purchase gets at most its quantity, and nothing where its limit is
-- below the price; each sale gives at most its quantity, and nothing where its limit is above
pub record IsMatching (orders : List Order) (p : ℕ) (fills : List Fill) : Type 0 where
  pub buys : (k : ℕ) → bought k fills ≤ qty_at (buys_at p) orders k
  pub sells : (k : ℕ) → sold k fills ≤ qty_at (sells_at p) orders k
