-- The entries of a span are the queue.
use Rattle.std.proofs.Common.{◌≡◌, ℕ, ◌≤◌, List, [], ◌∷◌, Bool, true, false, not, ◌&&◌, cond, refl, sym, ◌∙◌, ap, ap₂, map, arith}
use Rattle.std.proofs.lemmas.Int.{ints}
use Rattle.std.specs.Prelude.{ℤ, pos, negsuc, neg_ℤ, ◌≤ℤ◌, ◌<ℤ◌, int_lt, int_le, nat_lt, ◌==◌, bytes_eq, string_bytes, All}
use Rattle.std.specs.declared.cmp.Ordering.{Ordering}
use Rattle.std.specs.declared.cmp.Ordering.TheVariants.{Less, Equal, Greater}
use Rattle.std.specs.Ordering.{is_eq, is_le, is_lt, nat_cmp, int_cmp, bool_cmp, ordering_then}
use Rattle.std.specs.Cmp.Lexicographic.{slice_cmp}
use Rattle.std.specs.List.Sorted.{IsStrictlySortedBy}
use Rattle.std.specs.Map.{keys_of}
use Rattle.std.specs.BTreeMap.Range.{entries_between, range_contains}
use Rattle.std.specs.declared.ops.Bound.TheVariants.{Included}
use Rattle.std.proofs.lemmas.Bool.{ltb-true, ltb-false, le-ltb, and_parts, false≢true}
use Rattle.std.proofs.lemmas.Cmp.{nat_list_cmp_total, tied_itself}
use Rattle.std.proofs.lemmas.List.Elements.{All-head, All-tail}
use Rattle.std.proofs.lemmas.Map.Keys.{sorted_tail}
use Rattle.std.proofs.lemmas.Map.Text.{is_eq-slice_cmp}
use Rattle.std.proofs.lemmas.Map.Views.{All-after_first}
use Rattle.std.proofs.lemmas.Slice.Eq.{bytes_eq-Decides}
use Rattle.df_book.specs.declared.order.Order.{Order}
use Rattle.df_book.specs.declared.place.Place.{Place}
use Rattle.df_book.specs.declared.place.Rest.{Rest}
use Rattle.df_book.specs.Submitting.{meets, is_better, crosses}
use Rattle.df_book.specs.code.Places.{rank_of, limit_of, order_at, place_cmp, IsSpan, arrived, put, by_arrival, MayRest, IsInOrder, rank_in, queue}
use Rattle.df_book.proofs.Arrivals.{Arrived, Taken, taken}

-- ---- whether a place is in the span

-- the least and the greatest number of a place
abbrev least : ℤ
least = negsuc 9_223_372_036_854_775_807

abbrev greatest : ℕ
greatest = 18_446_744_073_709_551_615

from_least : (rank : ℤ) (o : Ordering) → least <ℤ rank → is_le (ordering_then (int_cmp least rank) o) ≡ true
from_least rank o h = ap (λ b. is_le (ordering_then (cond b Less (cond (int_lt rank least) Greater Equal)) o)) (let e : int_lt least rank ≡ true = grind (arith, ints) in e)

up_to : (high rank : ℤ) (a : ℕ) → a ≤ greatest → not (is_lt (ordering_then (int_cmp high rank) (nat_cmp greatest a))) ≡ int_le rank high
up_to high rank a h = go (int_lt high rank) refl (int_lt rank high) refl
  where
    go : (b : Bool) → int_lt high rank ≡ b → (c : Bool) → int_lt rank high ≡ c → not (is_lt (ordering_then (cond b Less (cond c Greater Equal)) (nat_cmp greatest a))) ≡ int_le rank high
    go true k c l = grind (arith, ints)
    go false k true l = grind (arith, ints)
    go false k false l =
        ap (λ b. not (is_lt (cond b Less (cond (greatest == a) Equal Greater)))) (le-ltb greatest a h) ∙ equal (greatest == a)
      where
        equal : (d : Bool) → not (is_lt (cond d Equal Greater)) ≡ int_le rank high
        equal true = grind (arith, ints)
        equal false = grind (arith, ints)

-- what the order of places says of a place, by its parts
parted : (osell qsell : Bool) (limit rank : ℤ) (a : ℕ) → least <ℤ rank → a ≤ greatest →
    is_le (ordering_then (bool_cmp (not osell) qsell) (ordering_then (int_cmp least rank) (nat_cmp 0 a)))
    && not (is_lt (ordering_then (bool_cmp (not osell) qsell) (ordering_then (int_cmp (neg_ℤ (cond osell limit (neg_ℤ limit))) rank) (nat_cmp greatest a))))
    ≡ cond osell (not qsell && int_le limit (cond qsell rank (neg_ℤ rank))) (qsell && int_le (cond qsell rank (neg_ℤ rank)) limit)
parted true true limit rank a h k = refl
parted false false limit rank a h k = refl
parted true false limit rank a h k =
    ap₂ (λ b c. b && c) (from_least rank (nat_cmp 0 a) h) (up_to (neg_ℤ limit) rank a k) ∙ (let e : int_le rank (neg_ℤ limit) ≡ int_le limit (neg_ℤ rank) = grind (arith, ints) in e)
parted false true limit rank a h k =
    ap₂ (λ b c. b && c) (from_least rank (nat_cmp 0 a) h) (up_to (neg_ℤ (neg_ℤ limit)) rank a k) ∙ (let e : int_le rank (neg_ℤ (neg_ℤ limit)) ≡ int_le rank limit = grind (arith, ints) in e)

spanned : (x : Ordering) (os qs : List ℕ) → slice_cmp nat_cmp os qs ≡ x → (c : Bool) → (below above : Ordering) → is_le below && not (is_lt above) ≡ c →
    is_le (ordering_then x below) && not (is_lt (ordering_then x above)) ≡ bytes_eq os qs && c
spanned Less os qs e c below above h = ap (λ b. b && c) (ap is_eq (sym e) ∙ is_eq-slice_cmp os qs)
spanned Equal os qs e c below above h = h ∙ ap (λ b. b && c) (ap is_eq (sym e) ∙ is_eq-slice_cmp os qs)
spanned Greater os qs e c below above h = ap (λ b. b && c) (ap is_eq (sym e) ∙ is_eq-slice_cmp os qs)

least_rank : (p : Place) (r : Rest) → MayRest (order_at p r) → least <ℤ p.rank
least_rank p r h = go p.sell h.limit h.limit_fits
  where
    go : (b : Bool) → pos 1 ≤ℤ cond b p.rank (neg_ℤ p.rank) → cond b p.rank (neg_ℤ p.rank) ≤ℤ pos 9_223_372_036_854_775_807 → least <ℤ p.rank
    go true a b = grind (arith, ints)
    go false a b = grind (arith, ints)

pub in_span : (o : Order) (first last : Place) (p : Place) (r : Rest) → IsSpan o first last → MayRest (order_at p r) → p.arrival ≤ greatest →
    range_contains place_cmp (Included first) (Included last) p ≡ meets o (order_at p r)
in_span o first last p r s m a =
    ap₂ (λ f l. is_le f && not (is_lt l))
    (ends first s.first_symbol s.first_sell s.first_rank s.first_arrival)
    (ends last s.last_symbol s.last_sell s.last_rank s.last_arrival)
    ∙ spanned (slice_cmp nat_cmp o.symbol (string_bytes p.symbol)) o.symbol (string_bytes p.symbol) refl (crosses o (order_at p r))
    (ordering_then (bool_cmp (not o.sell) p.sell) (ordering_then (int_cmp least p.rank) (nat_cmp 0 p.arrival)))
    (ordering_then (bool_cmp (not o.sell) p.sell) (ordering_then (int_cmp (neg_ℤ (rank_of o)) p.rank) (nat_cmp greatest p.arrival)))
    (parted o.sell p.sell o.limit p.rank p.arrival (least_rank p r m) a)
  where
    ends : (q : Place) → {symbol : List ℕ} {sell : Bool} {rank : ℤ} {arrival : ℕ} → string_bytes q.symbol ≡ symbol → q.sell ≡ sell → q.rank ≡ rank → q.arrival ≡ arrival →
        place_cmp q p ≡ ordering_then (slice_cmp nat_cmp symbol (string_bytes p.symbol)) (ordering_then (bool_cmp sell p.sell) (ordering_then (int_cmp rank p.rank) (nat_cmp arrival p.arrival)))
    ends q e f g h =
        ap₂ ordering_then (ap (λ s. slice_cmp nat_cmp s (string_bytes p.symbol)) e)
        (ap₂ ordering_then (ap (λ b. bool_cmp b p.sell) f) (ap₂ ordering_then (ap (λ z. int_cmp z p.rank) g) (ap (λ n. nat_cmp n p.arrival) h)))

-- ---- one more order before those of a queue

-- x trades before y
abbrev Before : Order → Arrived → Arrived → Type 0
Before o x y = (is_better o y.1 x.1 ≡ false) × (y.0 ≤ x.0 → is_better o x.1 y.1 ≡ true)

-- x trades before each order of the list that o meets
abbrev Leads : Order → Arrived → List Arrived → Type 0
Leads o x [] = Unit {0}
Leads o x (y ∷ ys) = (meets o y.1 ≡ true → Before o x y) × Leads o x ys

-- and before each order of a queue
abbrev LeadsAll : Order → Arrived → List Arrived → Type 0
LeadsAll o x [] = Unit {0}
LeadsAll o x (y ∷ ys) = Before o x y × LeadsAll o x ys

leads_ranked : (o : Order) (x y : Arrived) (ys : List Arrived) → Before o x y → LeadsAll o x ys → LeadsAll o x (rank_in o y ys)
leads_ranked o x y [] b l = (b, tt)
leads_ranked o x y (z ∷ zs) b l = go (is_better o z.1 y.1) (leads_ranked o x y zs b l.1)
  where
    go : (c : Bool) → LeadsAll o x (rank_in o y zs) → LeadsAll o x (cond c (z ∷ rank_in o y zs) (y ∷ z ∷ zs))
    go true k = (l.0, k)
    go false k = (b, l)

leads_queue : (o : Order) (x : Arrived) (ys : List Arrived) → Leads o x ys → LeadsAll o x (queue o ys)
leads_queue o x [] l = tt
leads_queue o x (y ∷ ys) l = go (meets o y.1) refl (leads_queue o x ys l.1)
  where
    go : (b : Bool) → meets o y.1 ≡ b → LeadsAll o x (queue o ys) → LeadsAll o x (cond b (rank_in o y (queue o ys)) (queue o ys))
    go true e k = leads_ranked o x y (queue o ys) (l.0 e) k
    go false e k = k

ranked_first : (o : Order) (x : Arrived) (ys : List Arrived) → LeadsAll o x ys → rank_in o x ys ≡ x ∷ ys
ranked_first o x [] l = refl
ranked_first o x (y ∷ ys) l = ap (λ b. cond b (y ∷ rank_in o x ys) (x ∷ y ∷ ys)) l.0.0

queue_met : (o : Order) (x : Arrived) (ys : List Arrived) → meets o x.1 ≡ true → queue o (x ∷ ys) ≡ rank_in o x (queue o ys)
queue_met o x ys e = ap (λ b. cond b (rank_in o x (queue o ys)) (queue o ys)) e

queue_put : (o : Order) (x : Arrived) (ys : List Arrived) → meets o x.1 ≡ true → Leads o x ys → queue o (put x ys) ≡ x ∷ queue o ys
queue_put o x [] e l = queue_met o x [] e
queue_put o x (y ∷ ys) e l = go (nat_lt x.0 y.0) refl (meets o y.1) refl (queue_put o x ys e l.1)
  where
    later : (c : Bool) → meets o y.1 ≡ c → nat_lt x.0 y.0 ≡ false → cond c (rank_in o y (x ∷ queue o ys)) (x ∷ queue o ys) ≡ x ∷ cond c (rank_in o y (queue o ys)) (queue o ys)
    later true k f = ap (λ b. cond b (x ∷ rank_in o y (queue o ys)) (y ∷ x ∷ queue o ys)) ((l.0 k).1 (ltb-false x.0 y.0 f))
    later false k f = refl

    go : (b : Bool) → nat_lt x.0 y.0 ≡ b → (c : Bool) → meets o y.1 ≡ c → queue o (put x ys) ≡ x ∷ queue o ys → queue o (cond b (x ∷ y ∷ ys) (y ∷ put x ys)) ≡ x ∷ queue o (y ∷ ys)
    go true f c k ih = queue_met o x (y ∷ ys) e ∙ ranked_first o x (queue o (y ∷ ys)) (leads_queue o x (y ∷ ys) l)
    go false f c k ih = ap (λ zs. cond (meets o y.1) (rank_in o y zs) zs) ih ∙ later (meets o y.1) refl f

queue_other : (o : Order) (x : Arrived) (ys : List Arrived) → meets o x.1 ≡ false → queue o (put x ys) ≡ queue o ys
queue_other o x [] e = ap (λ b. cond b (x ∷ []) []) e
queue_other o x (y ∷ ys) e = go (nat_lt x.0 y.0) (queue_other o x ys e)
  where
    go : (b : Bool) → queue o (put x ys) ≡ queue o ys → queue o (cond b (x ∷ y ∷ ys) (y ∷ put x ys)) ≡ queue o (y ∷ ys)
    go true ih = ap (λ b. cond b (rank_in o x (queue o (y ∷ ys))) (queue o (y ∷ ys))) e
    go false ih = ap (λ zs. cond (meets o y.1) (rank_in o y zs) zs) ih

-- ---- places in order

-- an order that is met is of the symbol, and of the other side
pub symbol_met : (o r : Order) → meets o r ≡ true → o.symbol ≡ r.symbol
symbol_met o r e = (bytes_eq-Decides o.symbol r.symbol).0 (and_parts (bytes_eq o.symbol r.symbol) (crosses o r) e).0

pub side_met : (o r : Order) → meets o r ≡ true → r.sell ≡ not o.sell
side_met o r e = go o.sell r.sell (int_le o.limit r.limit) (int_le r.limit o.limit) (and_parts (bytes_eq o.symbol r.symbol) (crosses o r) e).1
  where
    go : (a b c d : Bool) → cond a (not b && c) (b && d) ≡ true → b ≡ not a
    go true true c d h = absurd (false≢true h)
    go true false c d h = refl
    go false true c d h = refl
    go false false c d h = absurd (false≢true h)

-- the first of two numbers is less, or they are equal and the first of two others is less
ordered : (a b : ℤ) (m n : ℕ) → ordering_then (int_cmp a b) (nat_cmp m n) ≡ Less → (int_lt b a ≡ false) × (n ≤ m → int_lt a b ≡ true)
ordered a b m n h = go (int_lt a b) refl (int_lt b a) refl (nat_lt m n) refl h
  where
    go : (c : Bool) → int_lt a b ≡ c → (d : Bool) → int_lt b a ≡ d → (e : Bool) → nat_lt m n ≡ e →
        ordering_then (cond c Less (cond d Greater Equal)) (cond e Less (cond (m == n) Equal Greater)) ≡ Less → (d ≡ false) × (n ≤ m → c ≡ true)
    go true k true l e p h = absurd (let z : ⊥ = grind (arith, ints) in z)
    go true k false l e p h = (refl, (λ q. refl))
    go false k true l e p h = absurd (false≢true (ap is_lt h))
    go false k false l true p h = (refl, (λ q. absurd (let s = ltb-true m n p in omega arith)))
    go false k false l false p h = absurd (unequal (m == n) h)
      where
        unequal : (f : Bool) → cond f Equal Greater ≡ Less → ⊥
        unequal true h = false≢true (ap is_lt h)
        unequal false h = false≢true (ap is_lt h)

before : (o : Order) (e f : Place × Rest) → meets o (order_at e.0 e.1) ≡ true → meets o (order_at f.0 f.1) ≡ true → place_cmp e.0 f.0 ≡ Less → Before o (arrived e) (arrived f)
before o e f me mf h = sides o.sell (side_met o (order_at e.0 e.1) me) (side_met o (order_at f.0 f.1) mf)
  where
    symbols : slice_cmp nat_cmp (string_bytes e.0.symbol) (string_bytes f.0.symbol) ≡ Equal
    symbols =
        ap₂ (slice_cmp nat_cmp) (sym (symbol_met o (order_at e.0 e.1) me)) (sym (symbol_met o (order_at f.0 f.1) mf)) ∙ tied_itself nat_list_cmp_total o.symbol

    same : (b : Bool) → bool_cmp b b ≡ Equal
    same true = refl
    same false = refl

    numbers : (b : Bool) → e.0.sell ≡ b → f.0.sell ≡ b → ordering_then (int_cmp e.0.rank f.0.rank) (nat_cmp e.0.arrival f.0.arrival) ≡ Less
    numbers b p q =
        sym (
        ap₂ ordering_then symbols (ap (λ o. ordering_then o (ordering_then (int_cmp e.0.rank f.0.rank) (nat_cmp e.0.arrival f.0.arrival))) (ap₂ bool_cmp p q ∙ same b))
        )
        ∙ h

    sides : (b : Bool) → e.0.sell ≡ not b → f.0.sell ≡ not b →
        (cond b (int_lt (limit_of e.0) (limit_of f.0)) (int_lt (limit_of f.0) (limit_of e.0)) ≡ false)
        × (f.0.arrival ≤ e.0.arrival → cond b (int_lt (limit_of f.0) (limit_of e.0)) (int_lt (limit_of e.0) (limit_of f.0)) ≡ true)
    sides true p q =
        let n = ordered e.0.rank f.0.rank e.0.arrival f.0.arrival (numbers false p q) in
        let swap : (a b : ℤ) → int_lt (neg_ℤ a) (neg_ℤ b) ≡ int_lt b a = λ a b. grind (arith, ints) in (
          ap₂ (λ c d. int_lt (cond c e.0.rank (neg_ℤ e.0.rank)) (cond d f.0.rank (neg_ℤ f.0.rank))) p q ∙ swap e.0.rank f.0.rank ∙ n.0,
          (λ a. ap₂ (λ c d. int_lt (cond c f.0.rank (neg_ℤ f.0.rank)) (cond d e.0.rank (neg_ℤ e.0.rank))) q p ∙ swap f.0.rank e.0.rank ∙ n.1 a),
        )
    sides false p q =
        let n = ordered e.0.rank f.0.rank e.0.arrival f.0.arrival (numbers true p q) in (
          ap₂ (λ c d. int_lt (cond c f.0.rank (neg_ℤ f.0.rank)) (cond d e.0.rank (neg_ℤ e.0.rank))) q p ∙ n.0,
          (λ a. ap₂ (λ c d. int_lt (cond c e.0.rank (neg_ℤ e.0.rank)) (cond d f.0.rank (neg_ℤ f.0.rank))) p q ∙ n.1 a),
        )

leads_put : (o : Order) (x y : Arrived) (ys : List Arrived) → (meets o y.1 ≡ true → Before o x y) → Leads o x ys → Leads o x (put y ys)
leads_put o x y [] b l = (b, tt)
leads_put o x y (z ∷ zs) b l = go (nat_lt y.0 z.0) (leads_put o x y zs b l.1)
  where
    go : (c : Bool) → Leads o x (put y zs) → Leads o x (cond c (y ∷ z ∷ zs) (z ∷ put y zs))
    go true k = (b, l)
    go false k = (l.0, k)

leads : (o : Order) (e : Place × Rest) (es : List (Place × Rest)) → meets o (order_at e.0 e.1) ≡ true → All (λ q. place_cmp e.0 q ≡ Less) (keys_of es) → Leads o (arrived e) (by_arrival es)
leads o e [] m a = tt
leads o e (f ∷ es) m a =
    leads_put o (arrived e) (arrived f) (by_arrival es) (λ k. before o e f m k (All-head (λ q. place_cmp e.0 q ≡ Less) f.0 (keys_of es) a))
    (leads o e es m (All-tail (λ q. place_cmp e.0 q ≡ Less) f.0 (keys_of es) a))

-- the entries between two places, as orders, are the queue
pub spans : (o : Order) (first last : Place) (m : ℕ) (es : List (Place × Rest)) → IsSpan o first last → IsStrictlySortedBy place_cmp (keys_of es) → m ≤ greatest → IsInOrder 0 m (by_arrival es) →
    map arrived (entries_between place_cmp (Included first) (Included last) es) ≡ queue o (by_arrival es)
spans o first last m [] s k l i = refl
spans o first last m (e ∷ es) s k l i =
    let t = taken 0 m (arrived e) (by_arrival es) i in
    go t (range_contains place_cmp (Included first) (Included last) e.0) (in_span o first last e.0 e.1 s t.may_rest (let b = t.below in omega arith))
    (spans o first last m es s (sorted_tail place_cmp e.0 (keys_of es) k) l t.others)
  where
    go : Taken 0 m (arrived e) (by_arrival es) → (b : Bool) → b ≡ meets o (order_at e.0 e.1) →
        map arrived (entries_between place_cmp (Included first) (Included last) es) ≡ queue o (by_arrival es) →
        map arrived (cond b (e ∷ entries_between place_cmp (Included first) (Included last) es) (entries_between place_cmp (Included first) (Included last) es)) ≡ queue o (by_arrival (e ∷ es))
    go t true q ih =
        ap (λ xs. arrived e ∷ xs) ih ∙ sym (queue_put o (arrived e) (by_arrival es) (sym q) (leads o e es (sym q) (All-after_first place_cmp e.0 (keys_of es) k)))
    go t false q ih = ih ∙ sym (queue_other o (arrived e) (by_arrival es) (sym q))
