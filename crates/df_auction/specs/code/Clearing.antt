-- What a sweep through the two rankings makes.
use Rattle.std.specs.Prelude.{◌≡◌, ◌+◌, ◌-◌, ◌<◌, ◌≤◌, ◌⊎◌, ℕ, List, [], ◌∷◌, true, All, length, slice_index, Option, None, Some, ◌==◌, if◌then◌else◌}
use Rattle.df_book.specs.declared.order.Order.{Order}
use Rattle.df_auction.specs.declared.lot.Fill.{Fill}
use Rattle.df_auction.specs.declared.lot.Lot.{Lot}
use Rattle.df_auction.specs.Stairs.{buys_at, sells_at, demand, supply}
use Rattle.df_auction.specs.Matching.{bought, sold, total, qty_at, IsMatching}
use Rattle.df_auction.specs.Ranking.{purchases, sales, GoesThrough}

-- the split behind the purchases that are left: one above the first one's limit, or 1
abbrev pub split_of : List Lot → ℕ
split_of [] = 1
split_of (x ∷ xs) = x.limit + 1

-- the places of fills are those of orders
abbrev pub ArePlaced : List Order → List Fill → Type 0
ArePlaced orders fills = All (λ f. (f.purchase < length orders) × (f.sale < length orders)) fills

-- no order is given more than its quantity
abbrev pub StaysWithin : List Order → List Fill → Type 0
StaysWithin orders fills = (k : ℕ) → bought k fills + sold k fills ≤ qty_at (λ o. true) orders k

-- what is left at each place: with what the fills give, the quantity
abbrev pub IsLeft : List Order → List Fill → List ℕ → Type 0
IsLeft orders fills left = (k : ℕ)
    → slice_index left k + (bought k fills + sold k fills) ≡ qty_at (λ o. true) orders k

-- the price, where 0 stands for none
abbrev pub price_of : ℕ → Option ℕ
price_of p = if p == 0 then None else Some p

-- fills that clear the orders, at the price p (0 where there are no fills) and the split r
pub record Clears (orders : List Order) (fills : List Fill) (p r : ℕ) : Type 0 where
  pub through : GoesThrough (total fills) (purchases orders) (sales orders) fills
  pub matching : IsMatching orders p fills
  pub placed : ArePlaced orders fills
  pub within : StaysWithin orders fills
  -- who would buy at the split bought all, and who would sell below it sold all
  pub all_bought : (k : ℕ) → qty_at (buys_at r) orders k ≤ bought k fills
  pub all_sold : (k : ℕ) → qty_at (sells_at (r - 1)) orders k ≤ sold k fills
  pub split : 1 ≤ r
  pub asked_below : (1 < r) → total fills < demand orders (r - 1)
  pub offered_below : (q : ℕ) → q < p → supply orders q < total fills
  pub traded : ((fills ≡ []) × (p ≡ 0)) ⊎ ((0 < total fills) × (1 ≤ p))
