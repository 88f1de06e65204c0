-- What rests after an order of the floor, and its trades, are of the floor.
use Rattle.std.proofs.Common.{ℕ, zero, suc, ◌<◌, List, [], ◌∷◌, ◌++◌, Bool, true, false, cond, Some, None, get_or, length, arith}
use Rattle.std.specs.Prelude.{All, Option, ℤ, pos, ◌-ℤ◌, int_lt}
use Rattle.df_book.specs.Submitting.{Picked, Submitted, behind_one, best, better_of, if_left, is_better, lesser, matched, meets, met, rested, submitted, trade_of}
use Rattle.df_book.specs.declared.order.Order.{Order}
use Rattle.df_floor_units.specs.code.Trades.{IsFloorOrder, IsFloorTrade}

-- each element of a list is so, one after another
abbrev Each : {A : Type 0} → (A → Type 0) → List A → Type 0
Each P [] = Unit {0}
Each P (x ∷ xs) = P x × Each P xs

each : {A : Type 0} (P : A → Type 0) (xs : List A) → All P xs → Each P xs
each P [] h = tt
each P (x ∷ xs) h = (h 0 x (omega arith), each P xs (λ k d l. h (suc k) d (omega arith)))

all_more : {A : Type 0} (P : A → Type 0) (x : A) (xs : List A) → P x → All P xs → (k : ℕ) (d : A) → k < suc (length xs) → P (get_or (x ∷ xs) k d)
all_more P x xs h a zero d l = h
all_more P x xs h a (suc k) d l = a k d (omega arith)

all : {A : Type 0} (P : A → Type 0) (xs : List A) → Each P xs → All P xs
all P [] h = λ k d l. absurd (omega arith)
all P (x ∷ xs) h = all_more P x xs h.0 (all P xs h.1)

joined : (xs ys : List Order) → Each IsFloorOrder xs → Each IsFloorOrder ys → Each IsFloorOrder (xs ++ ys)
joined [] ys h k = k
joined (x ∷ xs) ys h k = (h.0, joined xs ys h.1 k)

-- the orders of a list out of which one was picked
record ArePicked (p : Picked) : Type 0 where
  ahead : Each IsFloorOrder p.ahead
  order : IsFloorOrder p.order
  behind : Each IsFloorOrder p.behind

abbrev MayBePicked : Option Picked → Type 0
MayBePicked None = Unit {0}
MayBePicked (Some p) = ArePicked p

behind_picked : (x : Order) (o : Option Picked) → IsFloorOrder x → MayBePicked o → MayBePicked (behind_one x o)
behind_picked x None h k = tt
behind_picked x (Some p) h k = record { ahead = (h, k.ahead); order = k.order; behind = k.behind }

better_picked : (o x : Order) (xs : List Order) (p : Option Picked) → IsFloorOrder x → Each IsFloorOrder xs → MayBePicked p → MayBePicked (better_of o x xs p)
better_picked o x xs None h k l = record { ahead = tt; order = h; behind = k }
better_picked o x xs (Some p) h k l = go (is_better o p.order x)
  where
    go : (b : Bool) → MayBePicked (cond b (behind_one x (Some p)) (Some (record { ahead = []; order = x; behind = xs })))
    go true = behind_picked x (Some p) h l
    go false = record { ahead = tt; order = h; behind = k }

best_picked : (o : Order) (book : List Order) → Each IsFloorOrder book → MayBePicked (best o book)
best_picked o [] h = tt
best_picked o (x ∷ xs) h = go (meets o x) (best_picked o xs h.1)
  where
    go : (b : Bool) → MayBePicked (best o xs) → MayBePicked (cond b (better_of o x xs (best o xs)) (behind_one x (best o xs)))
    go true k = better_picked o x xs (best o xs) h.0 h.1 k
    go false k = behind_picked x (best o xs) h.0 k

left_of_floor : (left : ℤ) (r : Order) (behind : List Order) → IsFloorOrder r → Each IsFloorOrder behind → Each IsFloorOrder (if_left left r behind)
left_of_floor left r behind h k = go (int_lt (pos 0) left)
  where
    go : (b : Bool) → Each IsFloorOrder (cond b (record r { qty = left } ∷ behind) behind)
    go true = (record { symbol = h.symbol; trader = h.trader }, k)
    go false = k

one_of : (b : Bool) (m n : ℕ) → m < 65_536 → n < 65_536 → cond b m n < 65_536
one_of true m n h k = h
one_of false m n h k = k

trade_of_floor : (o r : Order) (quantity : ℤ) → IsFloorOrder o → IsFloorOrder r → IsFloorTrade (trade_of o r quantity)
trade_of_floor o r quantity h k = record {
  symbol = h.symbol;
  buyer = one_of o.sell r.trader o.trader k.trader h.trader;
  seller = one_of o.sell o.trader r.trader h.trader k.trader;
}

-- trades and resting orders of the floor
record AreOfFloor (s : Submitted) : Type 0 where
  trades : Each IsFloorTrade s.trades
  resting : Each IsFloorOrder s.resting

rested_of_floor : (o : Order) (left : ℤ) (book : List Order) → IsFloorOrder o → Each IsFloorOrder book → AreOfFloor (rested o left book)
rested_of_floor o left book h k = record { trades = tt; resting = joined book (if_left left o []) k (left_of_floor left o [] h tt) }

met_of_floor : (more : ℤ → List Order → Submitted) (o : Order) (left : ℤ) (book : List Order) (p : Option Picked) →
    ((l : ℤ) (b : List Order) → Each IsFloorOrder b → AreOfFloor (more l b)) → IsFloorOrder o → Each IsFloorOrder book → MayBePicked p → AreOfFloor (met more o left book p)
met_of_floor more o left book None again h k l = rested_of_floor o left book h k
met_of_floor more o left book (Some p) again h k l =
    let rest = left_of_floor (p.order.qty -ℤ lesser left p.order.qty) p.order p.behind l.order l.behind in
    let next = again (left -ℤ lesser left p.order.qty) _ (joined p.ahead _ l.ahead rest) in
    record { trades = (trade_of_floor o p.order (lesser left p.order.qty) h l.order, next.trades); resting = next.resting }

matched_of_floor : (o : Order) (n : ℕ) (left : ℤ) (book : List Order) → IsFloorOrder o → Each IsFloorOrder book → AreOfFloor (matched o n left book)
matched_of_floor o zero left book h k = rested_of_floor o left book h k
matched_of_floor o (suc n) left book h k = go (int_lt (pos 0) left) (λ l b a. matched_of_floor o n l b h a)
  where
    go : (b : Bool) → ((l : ℤ) (bs : List Order) → Each IsFloorOrder bs → AreOfFloor (matched o n l bs)) → AreOfFloor (cond b (met (matched o n) o left book (best o book)) (rested o left book))
    go true again = met_of_floor (matched o n) o left book (best o book) again h k (best_picked o book k)
    go false again = rested_of_floor o left book h k

pub trades_of_floor : (o : Order) (book : List Order) → IsFloorOrder o → All IsFloorOrder book → All IsFloorTrade (submitted o book).trades
trades_of_floor o book h k = all IsFloorTrade (submitted o book).trades (matched_of_floor o (length book) o.qty book h (each IsFloorOrder book k)).trades

pub resting_of_floor : (o : Order) (book : List Order) → IsFloorOrder o → All IsFloorOrder book → All IsFloorOrder (submitted o book).resting
resting_of_floor o book h k = all IsFloorOrder (submitted o book).resting (matched_of_floor o (length book) o.qty book h (each IsFloorOrder book k)).resting
