-- What the places of a book tell of its orders.
use Rattle.std.specs.Prelude.{◌≡◌, ℕ, suc, ℤ, pos, negsuc, neg_ℤ, ◌-ℤ◌, ◌≤ℤ◌, ◌≤◌, ◌<◌, int_lt, nat_lt, ◌==◌, not, if◌then◌else◌, List, [], ◌∷◌, ◌++◌, ⊤, Some, string_bytes, string_cmp}
use Rattle.std.specs.Ordering.{nat_cmp, int_cmp, bool_cmp, ordering_then}
use Rattle.std.specs.declared.cmp.Ordering.{Ordering}
use Rattle.std.specs.Map.{lookup}
use Rattle.std.specs.BTreeMap.{is_at}
use Rattle.df_book.specs.declared.order.Order.{Order}
use Rattle.df_book.specs.declared.trade.Trade.{Trade}
use Rattle.df_book.specs.declared.place.Place.{Place}
use Rattle.df_book.specs.declared.place.Rest.{Rest}
use Rattle.df_book.specs.declared.plan.Fill.{Fill}
use Rattle.df_book.specs.declared.plan.Plan.{Plan}
use Rattle.df_book.specs.Submitting.{meets, is_better, lesser, trade_of}

-- where a limit stands among those of its side: the less, the better to trade with
abbrev pub rank_of : Order → ℤ
rank_of o = if o.sell then o.limit else neg_ℤ o.limit

-- the limit of a place
abbrev pub limit_of : Place → ℤ
limit_of p = if p.sell then p.rank else neg_ℤ p.rank

-- what rests at a place, as an order
abbrev pub order_at : Place → Rest → Order
order_at p r = record {
  id = r.id;
  limit = limit_of p;
  qty = r.qty;
  symbol = string_bytes p.symbol;
  trader = r.trader;
  sell = p.sell;
}

-- which of two places comes first
abbrev pub place_cmp : Place → Place → Ordering
place_cmp p q =
    ordering_then (string_cmp p.symbol q.symbol)
    (ordering_then (bool_cmp p.sell q.sell)
    (ordering_then (int_cmp p.rank q.rank) (nat_cmp p.arrival q.arrival)))

-- from first to last stand all places at which o may find an order that it meets
pub record IsSpan (o : Order) (first last : Place) : Type 0 where
  pub first_symbol : string_bytes first.symbol ≡ o.symbol
  pub first_sell : first.sell ≡ not o.sell
  pub first_rank : first.rank ≡ negsuc 9_223_372_036_854_775_807
  pub first_arrival : first.arrival ≡ 0
  pub last_symbol : string_bytes last.symbol ≡ o.symbol
  pub last_sell : last.sell ≡ not o.sell
  pub last_rank : last.rank ≡ neg_ℤ (rank_of o)
  pub last_arrival : last.arrival ≡ 18_446_744_073_709_551_615

-- an order with its arrival
abbrev pub arrived : Place × Rest → ℕ × Order
arrived e = (e.0.arrival, order_at e.0 e.1)

-- one more order among those in order of arrival
abbrev pub put : ℕ × Order → List (ℕ × Order) → List (ℕ × Order)
put e [] = e ∷ []
put e (x ∷ xs) = if nat_lt e.0 x.0 then e ∷ x ∷ xs else x ∷ put e xs

-- orders in order of arrival
abbrev pub by_arrival : List (Place × Rest) → List (ℕ × Order)
by_arrival [] = []
by_arrival (e ∷ es) = put (arrived e) (by_arrival es)

-- an order that may rest
pub record MayRest (o : Order) : Type 0 where
  pub qty : pos 1 ≤ℤ o.qty
  pub limit : pos 1 ≤ℤ o.limit
  pub limit_fits : o.limit ≤ℤ pos 9_223_372_036_854_775_807

-- the arrivals ascend, from n on and below m, and each order may rest
abbrev pub IsInOrder : ℕ → ℕ → List (ℕ × Order) → Type 0
IsInOrder n m [] = ⊤
IsInOrder n m (e ∷ es) = (n ≤ e.0) × (e.0 < m) × MayRest e.1 × IsInOrder (suc e.0) m es

-- one more order among those that o meets, the best first, and of equal limits the earliest
abbrev pub rank_in : Order → ℕ × Order → List (ℕ × Order) → List (ℕ × Order)
rank_in o x [] = x ∷ []
rank_in o x (y ∷ ys) = if is_better o y.1 x.1 then y ∷ rank_in o x ys else x ∷ y ∷ ys

-- the orders that o meets, in the order in which it trades with them
abbrev pub queue : Order → List (ℕ × Order) → List (ℕ × Order)
queue o [] = []
queue o (x ∷ xs) = if meets o x.1 then rank_in o x (queue o xs) else queue o xs

-- the orders where the one of an arrival has so much left
abbrev pub left_at : ℕ → ℤ → List (ℕ × Order) → List (ℕ × Order)
left_at a left [] = []
left_at a left (x ∷ xs) =
    if x.0 == a then (if int_lt (pos 0) left then (x.0, record x.1 { qty = left }) ∷ xs else xs)
    else x ∷ left_at a left xs

-- the orders after all fills
abbrev pub filled : List Fill → List (ℕ × Order) → List (ℕ × Order)
filled [] xs = xs
filled (f ∷ fs) xs = filled fs (left_at f.arrival f.left xs)

-- trades, fills, and what is left of the incoming order
pub record Planned : Type 0 where
  pub trades : List Trade
  pub fills : List Fill
  pub left : ℤ

-- the same with more trades and fills in front
abbrev pub behind_all : List Trade → List Fill → Planned → Planned
behind_all ts fs p = record p { trades = ts ++ p.trades; fills = fs ++ p.fills }

-- what a trade leaves of the resting order
abbrev pub fill_of : ℤ → ℕ × Order → Fill
fill_of left e = record {
  rank = rank_of e.1;
  arrival = e.0;
  left = e.1.qty -ℤ lesser left e.1.qty;
}

-- what o does with the orders of a queue, while something is left of it
abbrev pub plan_of : Order → ℤ → List (ℕ × Order) → Planned
plan_of o left [] = record { trades = []; fills = []; left = left }
plan_of o left (e ∷ es) =
    if int_lt (pos 0) left
    then behind_all (trade_of o e.1 (lesser left e.1.qty) ∷ []) (fill_of left e ∷ [])
    (plan_of o (left -ℤ lesser left e.1.qty) es)
    else record { trades = []; fills = []; left = left }

-- a plan is what was planned
pub record IsPlan (q : Planned) (p : Plan) : Type 0 where
  pub trades : p.trades.items ≡ q.trades
  pub fills : p.fills.items ≡ q.fills
  pub left : p.left ≡ q.left

-- the fills are those of a plan
abbrev pub AreFills : Order → List Fill → List (ℕ × Order) → Type 0
AreFills o fs xs = (left : ℤ) × (fs ≡ (plan_of o left (queue o xs)).fills)

-- what is left of an order, as it comes to rest
abbrev pub resting_of : ℕ → ℤ → Order → List (ℕ × Order)
resting_of arrival left o =
    if int_lt (pos 0) left then (arrival, record o { qty = left }) ∷ [] else []

-- something rests at a place
abbrev pub IsTaken : Place → List (Place × Rest) → Type 0
IsTaken p es = (r : Rest) × (lookup (is_at (place_cmp p)) es ≡ Some r)
