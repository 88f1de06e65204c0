-- What is planned over the queue is what the order does to the plain list.
use Rattle.std.proofs.Common.{◌≡◌, ℕ, zero, suc, ◌≤◌, List, [], ◌∷◌, ◌++◌, Bool, true, false, cond, refl, sym, ◌∙◌, ap, ap₂, append-nil, append_assoc, not, ◌&&◌, arith}
use Rattle.std.proofs.lemmas.Bool.{and_right}
use Rattle.std.proofs.lemmas.Int.{ints}
use Rattle.std.specs.Prelude.{ℤ, pos, ◌-ℤ◌, int_lt, int_le, length, drop, bytes_eq}
use Rattle.std.specs.Map.{values_of}
use Rattle.df_book.specs.declared.order.Order.{Order}
use Rattle.df_book.specs.declared.trade.Trade.{Trade}
use Rattle.df_book.specs.declared.plan.Fill.{Fill}
use Rattle.df_book.specs.declared.plan.Plan.{Plan}
use Rattle.df_book.specs.Submitting.{Submitted, is_better, best, meets, crosses, lesser, trade_of, if_left, trade_first, rested, met, matched, submitted}
use Rattle.df_book.specs.code.Places.{MayRest, IsInOrder, IsPlan, rank_in, queue, resting_of, left_at, filled, Planned, behind_all, fill_of, plan_of, AreFills}
use Rattle.df_book.proofs.Arrivals.{Arrived, left_in_order}
use Rattle.df_book.proofs.Queued.{Head, Heads, heads, left_between, left_length, left_more}

-- what a plan makes of the orders in order of arrival
abbrev pub done : Order → List Arrived → Planned → Submitted
done o xs p = record { trades = p.trades; resting = values_of (filled p.fills xs) ++ if_left p.left o [] }

pub nothing_left : (o : Order) (left : ℤ) (q : List Arrived) → int_lt (pos 0) left ≡ false → plan_of o left q ≡ record { trades = []; fills = []; left = left }
nothing_left o left [] e = refl
nothing_left o left (h ∷ t) e =
    ap (λ b. cond b (behind_all (trade_of o h.1 (lesser left h.1.qty) ∷ []) (fill_of left h ∷ []) (plan_of o (left -ℤ lesser left h.1.qty) t)) (record { trades = []; fills = []; left = left })) e

pub planned_first : (o : Order) (left : ℤ) (h : Arrived) (t : List Arrived) → int_lt (pos 0) left ≡ true →
    plan_of o left (h ∷ t) ≡ behind_all (trade_of o h.1 (lesser left h.1.qty) ∷ []) (fill_of left h ∷ []) (plan_of o (left -ℤ lesser left h.1.qty) t)
planned_first o left h t e =
    ap (λ b. cond b (behind_all (trade_of o h.1 (lesser left h.1.qty) ∷ []) (fill_of left h ∷ []) (plan_of o (left -ℤ lesser left h.1.qty) t)) (record { trades = []; fills = []; left = left })) e

pub unmatched : (o : Order) (k : ℕ) (left : ℤ) (book : List Order) → int_lt (pos 0) left ≡ false → matched o k left book ≡ rested o left book
unmatched o zero left book e = refl
unmatched o (suc k) left book e = ap (λ b. cond b (met (matched o k) o left book (best o book)) (rested o left book)) e

pub none_left : (z : ℤ) → z -ℤ z ≡ pos 0
none_left z = omega (arith, ints)

-- the queue without its first order, or nothing left of the incoming one
goes_on : (o : Order) (n m : ℕ) (left : ℤ) (xs : List Arrived) (h : Arrived) (t : List Arrived) → Head o n m xs h t →
    plan_of o (left -ℤ lesser left h.1.qty) t ≡ plan_of o (left -ℤ lesser left h.1.qty) (queue o (left_at h.0 (h.1.qty -ℤ lesser left h.1.qty) xs))
goes_on o n m left xs h t d = go (int_lt left h.1.qty)
  where
    go : (b : Bool) → plan_of o (left -ℤ cond b left h.1.qty) t ≡ plan_of o (left -ℤ cond b left h.1.qty) (queue o (left_at h.0 (h.1.qty -ℤ cond b left h.1.qty) xs))
    go true =
        let none = ap (λ z. int_lt (pos 0) z) (none_left left) in
        nothing_left o (left -ℤ left) t none ∙ sym (nothing_left o (left -ℤ left) (queue o (left_at h.0 (h.1.qty -ℤ left) xs)) none)
    go false = sym (ap (plan_of o (left -ℤ h.1.qty)) (ap (λ z. queue o (left_at h.0 z xs)) (none_left h.1.qty) ∙ d.gone))

pub planned : (o : Order) (k m : ℕ) (left : ℤ) (xs : List Arrived) → IsInOrder 0 m xs → length xs ≤ k → matched o k left (values_of xs) ≡ done o xs (plan_of o left (queue o xs))
planned o zero m left [] i h = refl
planned o zero m left (x ∷ xs) i h = absurd (omega arith)
planned o (suc k) m left xs i h = go (int_lt (pos 0) left) refl (queue o xs) refl (heads o 0 m xs i) (λ left ys j l. planned o k m left ys j l)
  where
    -- after a trade with the first of the queue
    traded : (x : Arrived) (t : List Arrived) → queue o xs ≡ x ∷ t → Head o 0 m xs x t → ((left : ℤ) (ys : List Arrived) → IsInOrder 0 m ys → length ys ≤ k → matched o k left (values_of ys) ≡ done o ys (plan_of o left (queue o ys))) →
        (b : Bool) → matched o k (left -ℤ cond b left x.1.qty) (values_of (left_at x.0 (x.1.qty -ℤ cond b left x.1.qty) xs))
        ≡ done o (left_at x.0 (x.1.qty -ℤ cond b left x.1.qty) xs) (plan_of o (left -ℤ cond b left x.1.qty) (queue o (left_at x.0 (x.1.qty -ℤ cond b left x.1.qty) xs)))
    traded x t q d again true =
        let none = ap (λ z. int_lt (pos 0) z) (none_left left) in
        unmatched o k (left -ℤ left) (values_of (left_at x.0 (x.1.qty -ℤ left) xs)) none
        ∙ ap (done o (left_at x.0 (x.1.qty -ℤ left) xs)) (sym (nothing_left o (left -ℤ left) (queue o (left_at x.0 (x.1.qty -ℤ left) xs)) none))
    traded x t q d again false =
        let size = left_length (x.1.qty -ℤ x.1.qty) x xs d.found (ap (λ z. int_lt (pos 0) z) (none_left x.1.qty)) in
        again (left -ℤ x.1.qty) (left_at x.0 (x.1.qty -ℤ x.1.qty) xs) (left_in_order 0 m x.0 (x.1.qty -ℤ x.1.qty) xs i) (omega arith)

    go : (b : Bool) → int_lt (pos 0) left ≡ b → (q : List Arrived) → queue o xs ≡ q → Heads o 0 m xs q →
        ((left : ℤ) (ys : List Arrived) → IsInOrder 0 m ys → length ys ≤ k → matched o k left (values_of ys) ≡ done o ys (plan_of o left (queue o ys))) →
        cond b (met (matched o k) o left (values_of xs) (best o (values_of xs))) (rested o left (values_of xs)) ≡ done o xs (plan_of o left q)
    go false e q w d again = ap (done o xs) (sym (nothing_left o left q e))
    go true e [] w d again = ap (met (matched o k) o left (values_of xs)) d
    go true e (x ∷ t) w d again =
        ap (met (matched o k) o left (values_of xs)) d.best
        ∙ ap (λ ys. trade_first (trade_of o x.1 (lesser left x.1.qty)) (matched o k (left -ℤ lesser left x.1.qty) ys)) (sym (left_between (x.1.qty -ℤ lesser left x.1.qty) x xs d.found))
        ∙ ap (trade_first (trade_of o x.1 (lesser left x.1.qty))) (traded x t w d again (int_lt left x.1.qty))
        ∙ ap (λ p. trade_first (trade_of o x.1 (lesser left x.1.qty)) (done o (left_at x.0 (x.1.qty -ℤ lesser left x.1.qty) xs) p)) (sym (goes_on o 0 m left xs x t d))
        ∙ ap (done o xs) (sym (planned_first o left x t e))

-- ---- the fills of a plan, one after another

-- the first fill is that of the first of the queue
pub record NextFill (o : Order) (m : ℕ) (f : Fill) (fs : List Fill) (xs : List Arrived) : Type 0 where
  pub left : ℤ
  pub head : Arrived
  pub tail : List Arrived
  pub queued : queue o xs ≡ head ∷ tail
  pub heads : Head o 0 m xs head tail
  pub fill : f ≡ fill_of left head
  pub others : AreFills o fs (left_at f.arrival f.left xs)

front : (f g : Fill) (fs gs : List Fill) → f ∷ fs ≡ g ∷ gs → f ≡ g
front f g fs gs e = ap (λ (hs : List Fill). first f hs) e
  where
    first : Fill → List Fill → Fill
    first f [] = f
    first f (h ∷ hs) = h

rest_of : (f g : Fill) (fs gs : List Fill) → f ∷ fs ≡ g ∷ gs → fs ≡ gs
rest_of f g fs gs e = ap (λ (hs : List Fill). drop 1 hs) e

pub next_fill : (o : Order) (m : ℕ) (f : Fill) (fs : List Fill) (xs : List Arrived) → IsInOrder 0 m xs → AreFills o (f ∷ fs) xs → NextFill o m f fs xs
next_fill o m f fs xs i a = go (queue o xs) refl (heads o 0 m xs i) (int_lt (pos 0) a.0) refl a.1
  where
    none : f ∷ fs ≡ [] → NextFill o m f fs xs
    none e = absurd (let size = ap length e in omega arith)

    go : (q : List Arrived) → queue o xs ≡ q → Heads o 0 m xs q → (b : Bool) → int_lt (pos 0) a.0 ≡ b → f ∷ fs ≡ (plan_of o a.0 q).fills → NextFill o m f fs xs
    go [] w d b k e = none e
    go (h ∷ t) w d false k e = none (e ∙ ap (λ p. p.fills) (nothing_left o a.0 (h ∷ t) k))
    go (h ∷ t) w d true k e =
        let e' = e ∙ ap (λ p. p.fills) (planned_first o a.0 h t k) in
        let same = front f (fill_of a.0 h) fs (plan_of o (a.0 -ℤ lesser a.0 h.1.qty) t).fills e' in
        record {
          left = a.0;
          head = h;
          tail = t;
          queued = w;
          heads = d;
          fill = same;
          others = (
            a.0 -ℤ lesser a.0 h.1.qty,
            rest_of f (fill_of a.0 h) fs (plan_of o (a.0 -ℤ lesser a.0 h.1.qty) t).fills e' ∙ ap (λ p. p.fills) (goes_on o 0 m a.0 xs h t d)
                ∙ ap (λ (g : Fill). (plan_of o (a.0 -ℤ lesser a.0 h.1.qty) (queue o (left_at g.arrival g.left xs))).fills) (sym same),
          );
        }

pub filled_in_order : (m : ℕ) (fs : List Fill) (xs : List Arrived) → IsInOrder 0 m xs → IsInOrder 0 m (filled fs xs)
filled_in_order m [] xs i = i
filled_in_order m (f ∷ fs) xs i = filled_in_order m fs (left_at f.arrival f.left xs) (left_in_order 0 m f.arrival f.left xs i)

pub filled_more : (o : Order) (m : ℕ) (fs : List Fill) (xs ys : List Arrived) → IsInOrder 0 m xs → AreFills o fs xs → filled fs (xs ++ ys) ≡ filled fs xs ++ ys
filled_more o m [] xs ys i a = refl
filled_more o m (f ∷ fs) xs ys i a =
    let n = next_fill o m f fs xs i a in
    ap (filled fs) (ap (λ (g : Fill). left_at g.arrival f.left (xs ++ ys)) n.fill ∙ left_more f.left n.head xs ys n.heads.found ∙ ap (λ (g : Fill). left_at g.arrival f.left xs ++ ys) (sym n.fill))
    ∙ filled_more o m fs (left_at f.arrival f.left xs) ys (left_in_order 0 m f.arrival f.left xs i) n.others

-- ---- the plan, as it grows

abbrev pub AllMayRest : List Arrived → Type 0
AllMayRest [] = Unit {0}
AllMayRest (x ∷ xs) = MayRest x.1 × AllMayRest xs

ranked_may_rest : (o : Order) (x : Arrived) (xs : List Arrived) → MayRest x.1 → AllMayRest xs → AllMayRest (rank_in o x xs)
ranked_may_rest o x [] m a = (m, tt)
ranked_may_rest o x (y ∷ ys) m a = go (is_better o y.1 x.1) (ranked_may_rest o x ys m a.1)
  where
    go : (b : Bool) → AllMayRest (rank_in o x ys) → AllMayRest (cond b (y ∷ rank_in o x ys) (x ∷ y ∷ ys))
    go true k = (a.0, k)
    go false k = (m, a)

pub queue_may_rest : (o : Order) (n m : ℕ) (xs : List Arrived) → IsInOrder n m xs → AllMayRest (queue o xs)
queue_may_rest o n m [] i = tt
queue_may_rest o n m (x ∷ xs) i = go (meets o x.1) (queue_may_rest o (suc x.0) m xs i.3)
  where
    go : (b : Bool) → AllMayRest (queue o xs) → AllMayRest (cond b (rank_in o x (queue o xs)) (queue o xs))
    go true k = ranked_may_rest o x (queue o xs) i.2 k
    go false k = k

pub begun : (o : Order) (q r : List Arrived) (ts : List Trade) (fs : List Fill) (left : ℤ) → ts ≡ [] → fs ≡ [] → left ≡ o.qty → r ≡ q → plan_of o o.qty q ≡ behind_all ts fs (plan_of o left r)
begun o q r ts fs left e f g h =
    ap (λ xs. plan_of o o.qty xs) (sym h) ∙ ap (λ z. plan_of o z r) (sym g) ∙ ap₂ (λ t f. behind_all t f (plan_of o left r)) (sym e) (sym f)

pub grown : (o : Order) (left : ℤ) (h : Arrived) (t : List Arrived) (ts us : List Trade) (fs gs : List Fill) (rest : ℤ) → int_lt (pos 0) left ≡ true →
    us ≡ ts ++ trade_of o h.1 (lesser left h.1.qty) ∷ [] → gs ≡ fs ++ fill_of left h ∷ [] → rest ≡ left -ℤ lesser left h.1.qty →
    behind_all ts fs (plan_of o left (h ∷ t)) ≡ behind_all us gs (plan_of o rest t)
grown o left h t ts us fs gs rest e u g r =
    ap (behind_all ts fs) (planned_first o left h t e)
    ∙ ap₂ (λ (xs : List Trade) (ys : List Fill). record { trades = xs; fills = ys; left = (plan_of o (left -ℤ lesser left h.1.qty) t).left })
    (sym (append_assoc ts (trade_of o h.1 (lesser left h.1.qty) ∷ []) (plan_of o (left -ℤ lesser left h.1.qty) t).trades))
    (sym (append_assoc fs (fill_of left h ∷ []) (plan_of o (left -ℤ lesser left h.1.qty) t).fills))
    ∙ ap₂ (λ xs ys. behind_all xs ys (plan_of o (left -ℤ lesser left h.1.qty) t)) (sym u) (sym g) ∙ ap (λ z. behind_all us gs (plan_of o z t)) (sym r)

pub ended : (q rest : Planned) (p : Plan) → q ≡ behind_all p.trades.items p.fills.items rest → rest ≡ record { trades = []; fills = []; left = p.left } → IsPlan q p
ended q rest p e f =
    let g = e ∙ ap (behind_all p.trades.items p.fills.items) f in
    record {
      trades = sym (ap (λ (x : Planned). x.trades) g ∙ append-nil p.trades.items);
      fills = sym (ap (λ (x : Planned). x.fills) g ∙ append-nil p.fills.items);
      left = sym (ap (λ (x : Planned). x.left) g);
    }

-- ---- the whole

length-values_of : (xs : List Arrived) → length (values_of xs) ≡ length xs
length-values_of [] = refl
length-values_of (x ∷ xs) = ap suc (length-values_of xs)

values_of-append : (xs ys : List Arrived) → values_of (xs ++ ys) ≡ values_of xs ++ values_of ys
values_of-append [] ys = refl
values_of-append (x ∷ xs) ys = ap (λ (zs : List Order). x.1 ∷ zs) (values_of-append xs ys)

-- no order meets itself
pub not_itself : (o : Order) (left : ℤ) → meets o (record o { qty = left }) ≡ false
not_itself o left = and_right (bytes_eq o.symbol o.symbol) (crosses o (record o { qty = left })) (go o.sell (int_le o.limit o.limit))
  where
    go : (b c : Bool) → cond b (not b && c) (b && c) ≡ false
    go true c = refl
    go false c = refl

values_of-resting : (o : Order) (arrival : ℕ) (left : ℤ) → values_of (resting_of arrival left o) ≡ if_left left o []
values_of-resting o arrival left = go (int_lt (pos 0) left)
  where
    go : (b : Bool) → values_of (cond b ((arrival, record o { qty = left }) ∷ []) []) ≡ cond b (record o { qty = left } ∷ []) []
    go true = refl
    go false = refl

-- a plan and its fills are what the order does to the book
pub record Does (o : Order) (arrival : ℕ) (xs : List Arrived) (p : Plan) : Type 0 where
  pub trades : p.trades.items ≡ (submitted o (values_of xs)).trades
  pub resting : values_of (filled p.fills.items (xs ++ resting_of arrival p.left o)) ≡ (submitted o (values_of xs)).resting

pub does : (o : Order) (m arrival : ℕ) (xs : List Arrived) (p : Plan) → IsInOrder 0 m xs → IsPlan (plan_of o o.qty (queue o xs)) p → Does o arrival xs p
does o m arrival xs p i q =
    let all = planned o (length (values_of xs)) m o.qty xs i (let e = length-values_of xs in omega arith) in
    record {
      trades = q.trades ∙ ap (λ (s : Submitted). s.trades) (sym all);
      resting = ap values_of (filled_more o m p.fills.items xs (resting_of arrival p.left o) i (o.qty, q.fills))
          ∙ values_of-append (filled p.fills.items xs) (resting_of arrival p.left o)
          ∙ ap₂ (λ fs left. values_of (filled fs xs) ++ left) q.fills (values_of-resting o arrival p.left ∙ ap (λ z. if_left z o []) q.left)
          ∙ ap (λ (s : Submitted). s.resting) (sym all);
    }
