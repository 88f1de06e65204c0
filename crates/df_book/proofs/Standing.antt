-- The entries of the places against the orders in order of arrival.
use Rattle.std.proofs.Common.{◌≡◌, ℕ, ◌<◌, ◌≢◌, List, [], ◌∷◌, ◌++◌, Bool, true, false, cond, refl, sym, ◌∙◌, ap, ap₂, subst, Some, ◌⊎◌, inl, inr, arith}
use Rattle.std.proofs.lemmas.Int.{ints}
use Rattle.std.specs.Cmp.Lexicographic.{slice_cmp}
use Rattle.std.specs.Prelude.{ℤ, pos, neg_ℤ, int_lt, nat_lt, ◌==◌, string_cmp, string_bytes}
use Rattle.std.specs.declared.cmp.Ordering.{Ordering}
use Rattle.std.specs.declared.cmp.Ordering.TheVariants.{Less, Equal, Greater}
use Rattle.std.specs.Ordering.{is_eq, nat_cmp, int_cmp, bool_cmp, ordering_then, match_ordering, MatchOrdering}
use Rattle.std.specs.Map.{lookup}
use Rattle.std.specs.BTreeMap.{insert_entry, is_at}
use Rattle.std.proofs.lemmas.Bool.{false≢true, eqb-true}
use Rattle.std.proofs.lemmas.Cmp.{ranked, tied_itself, nat_list_cmp_total, int_cmp_total, nat_cmp_total}
use Rattle.std.proofs.lemmas.Option.{none-some}
use Rattle.df_book.specs.declared.order.Order.{Order}
use Rattle.df_book.specs.declared.place.Place.{Place}
use Rattle.df_book.specs.declared.place.Rest.{Rest}
use Rattle.df_book.specs.code.Places.{rank_of, order_at, place_cmp, arrived, put, by_arrival, IsInOrder, left_at}
use Rattle.df_book.specs.code.Trees.{left_here, left_in, with_left}
use Rattle.df_book.proofs.Arrivals.{Arrived, Apart, Taken, taken, put_last, put_ahead, left_put, left_past}
use Rattle.df_book.proofs.Queued.{Found}

then_equal : (a b : Ordering) → ordering_then a b ≡ Equal → b ≡ Equal
then_equal Less b e = absurd (false≢true (ap is_eq e))
then_equal Equal b e = e
then_equal Greater b e = absurd (false≢true (ap is_eq e))

-- equal places have one arrival
pub equal_arrivals : (p q : Place) → place_cmp p q ≡ Equal → p.arrival ≡ q.arrival
equal_arrivals p q e =
    let e1 = then_equal (string_cmp p.symbol q.symbol) (ordering_then (bool_cmp p.sell q.sell) (ordering_then (int_cmp p.rank q.rank) (nat_cmp p.arrival q.arrival))) e in
    let e2 = then_equal (bool_cmp p.sell q.sell) (ordering_then (int_cmp p.rank q.rank) (nat_cmp p.arrival q.arrival)) e1 in
    let e3 = then_equal (int_cmp p.rank q.rank) (nat_cmp p.arrival q.arrival) e2 in
    subst (λ o. MatchOrdering o (p.arrival < q.arrival) (p.arrival ≡ q.arrival) (q.arrival < p.arrival)) e3 (ranked p.arrival q.arrival (nat_cmp p.arrival q.arrival) refl)

at_arrivals : (p q : Place) → is_eq (place_cmp p q) ≡ true → p.arrival ≡ q.arrival
at_arrivals p q e = go (place_cmp p q) refl e
  where
    go : (o : Ordering) → place_cmp p q ≡ o → is_eq o ≡ true → p.arrival ≡ q.arrival
    go Less k e = absurd (false≢true e)
    go Equal k e = equal_arrivals p q k
    go Greater k e = absurd (false≢true e)

-- one more, which came last
pub inserted : (p : Place) (r : Rest) (es : List (Place × Rest)) → IsInOrder 0 p.arrival (by_arrival es) → by_arrival (insert_entry place_cmp es p r) ≡ by_arrival es ++ arrived (p, r) ∷ []
inserted p r [] i = refl
inserted p r (e ∷ es) i =
    let t = taken 0 p.arrival (arrived e) (by_arrival es) i in
    go t (place_cmp p e.0) refl (inserted p r es t.others)
  where
    go : Taken 0 p.arrival (arrived e) (by_arrival es) → (o : Ordering) → place_cmp p e.0 ≡ o → by_arrival (insert_entry place_cmp es p r) ≡ by_arrival es ++ arrived (p, r) ∷ [] →
        by_arrival (match_ordering o ((p, r) ∷ e ∷ es) ((e.0, r) ∷ es) (e ∷ insert_entry place_cmp es p r)) ≡ by_arrival (e ∷ es) ++ arrived (p, r) ∷ []
    go t Less k ih = put_last 0 p.arrival (arrived (p, r)) (by_arrival (e ∷ es)) i (omega arith)
    go t Equal k ih = absurd (let same = equal_arrivals p e.0 k in let below = t.below in omega arith)
    go t Greater k ih = ap (put (arrived e)) ih ∙ put_ahead (arrived e) (arrived (p, r)) (by_arrival es) t.below

apart_put : (a : ℕ) (e : Arrived) (xs : List Arrived) → Apart a (put e xs) → (e.0 ≢ a) × Apart a xs
apart_put a e [] h = h
apart_put a e (x ∷ xs) h = go (nat_lt e.0 x.0) h (apart_put a e xs)
  where
    go : (b : Bool) → Apart a (cond b (e ∷ x ∷ xs) (x ∷ put e xs)) → (Apart a (put e xs) → (e.0 ≢ a) × Apart a xs) → (e.0 ≢ a) × Apart a (x ∷ xs)
    go true h again = (h.0, h.1)
    go false h again = let k = again h.1 in (k.0, (h.0, k.1))

-- what is found at a place is there by its arrival
not_apart : (p : Place) (r : Rest) (es : List (Place × Rest)) → lookup (is_at (place_cmp p)) es ≡ Some r → Apart p.arrival (by_arrival es) → ⊥
not_apart p r [] h a = none-some r h
not_apart p r (e ∷ es) h a =
    let k = apart_put p.arrival (arrived e) (by_arrival es) a in
    go k (is_eq (place_cmp p e.0)) refl h (λ l. not_apart p r es l k.1)
  where
    go : (e.0.arrival ≢ p.arrival) × Apart p.arrival (by_arrival es) → (b : Bool) → is_eq (place_cmp p e.0) ≡ b → cond b (Some e.1) (lookup (is_at (place_cmp p)) es) ≡ Some r → (lookup (is_at (place_cmp p)) es ≡ Some r → ⊥) → ⊥
    go k true e' h again = k.0 (sym (at_arrivals p e.0 e'))
    go k false e' h again = again h

other_arrival : (n m : ℕ) (p : Place) (r : Rest) (e : Place × Rest) (es : List (Place × Rest)) → Taken n m (arrived e) (by_arrival es) → lookup (is_at (place_cmp p)) es ≡ Some r → e.0.arrival ≢ p.arrival
other_arrival n m p r e es t h q = not_apart p r es h (subst (λ a. Apart a (by_arrival es)) q t.apart)

-- so much is left of the order at a place
pub left_arrived : (n m : ℕ) (p : Place) (left : ℤ) (r : Rest) (es : List (Place × Rest)) → IsInOrder n m (by_arrival es) → lookup (is_at (place_cmp p)) es ≡ Some r →
    by_arrival (left_in p left es) ≡ left_at p.arrival left (by_arrival es)
left_arrived n m p left r [] i h = absurd (none-some r h)
left_arrived n m p left r (e ∷ es) i h =
    let t = taken n m (arrived e) (by_arrival es) i in
    go t (is_eq (place_cmp p e.0)) refl h (λ k. left_arrived n m p left r es t.others k)
  where
    here : (c : Bool) → by_arrival (cond c (with_left left e ∷ es) es) ≡ cond c (put (e.0.arrival, record (order_at e.0 e.1) { qty = left }) (by_arrival es)) (by_arrival es)
    here true = refl
    here false = refl

    go : Taken n m (arrived e) (by_arrival es) → (b : Bool) → is_eq (place_cmp p e.0) ≡ b → cond b (Some e.1) (lookup (is_at (place_cmp p)) es) ≡ Some r →
        (lookup (is_at (place_cmp p)) es ≡ Some r → by_arrival (left_in p left es) ≡ left_at p.arrival left (by_arrival es)) →
        by_arrival (cond b (left_here left e es) (e ∷ left_in p left es)) ≡ left_at p.arrival left (by_arrival (e ∷ es))
    go t true k h again =
        here (int_lt (pos 0) left)
        ∙ sym (left_put e.0.arrival left (order_at e.0 e.1) (by_arrival es) t.apart) ∙ ap (λ a. left_at a left (by_arrival (e ∷ es))) (sym (at_arrivals p e.0 k))
    go t false k h again =
        ap (put (arrived e)) (again h) ∙ sym (left_past n m p.arrival left (arrived e) (by_arrival es) (other_arrival n m p r e es t h) t.others)

-- ---- what is found by its arrival is found at its place

found_put : (h x : Arrived) (ys : List Arrived) → Found h (put x ys) → ((x.0 ≡ h.0) × (x.1 ≡ h.1)) ⊎ Found h ys
found_put h x [] f = go (x.0 == h.0) refl f
  where
    go : (b : Bool) → (x.0 == h.0) ≡ b → cond b (x.1 ≡ h.1) ⊥ → ((x.0 ≡ h.0) × (x.1 ≡ h.1)) ⊎ ⊥
    go true e f = inl (eqb-true x.0 h.0 e, f)
    go false e f = absurd f
found_put h x (y ∷ ys) f = go (nat_lt x.0 y.0) f (found_put h x ys)
  where
    here : (b : Bool) → (x.0 == h.0) ≡ b → cond b (x.1 ≡ h.1) (Found h (y ∷ ys)) → ((x.0 ≡ h.0) × (x.1 ≡ h.1)) ⊎ Found h (y ∷ ys)
    here true e f = inl (eqb-true x.0 h.0 e, f)
    here false e f = inr f

    there : (b : Bool) → cond b (y.1 ≡ h.1) (Found h (put x ys)) → (Found h (put x ys) → ((x.0 ≡ h.0) × (x.1 ≡ h.1)) ⊎ Found h ys) → ((x.0 ≡ h.0) × (x.1 ≡ h.1)) ⊎ cond b (y.1 ≡ h.1) (Found h ys)
    there true f again = inr f
    there false f again = again f

    go : (b : Bool) → Found h (cond b (x ∷ y ∷ ys) (y ∷ put x ys)) → (Found h (put x ys) → ((x.0 ≡ h.0) × (x.1 ≡ h.1)) ⊎ Found h ys) → ((x.0 ≡ h.0) × (x.1 ≡ h.1)) ⊎ Found h (y ∷ ys)
    go true f again = here (x.0 == h.0) refl f
    go false f again = there (y.0 == h.0) f again

-- the rank of a place is that of its order
pub rank_at : (p : Place) (r : Rest) → rank_of (order_at p r) ≡ p.rank
rank_at p r = go p.sell
  where
    go : (b : Bool) → cond b (cond b p.rank (neg_ℤ p.rank)) (neg_ℤ (cond b p.rank (neg_ℤ p.rank))) ≡ p.rank
    go true = refl
    go false = grind (arith, ints)

-- p is the place of an order with its arrival
pub record IsPlaceOf (h : Arrived) (p : Place) : Type 0 where
  pub symbol : string_bytes p.symbol ≡ h.1.symbol
  pub sell : p.sell ≡ h.1.sell
  pub rank : p.rank ≡ rank_of h.1
  pub arrival : p.arrival ≡ h.0

same_place : (h : Arrived) (p : Place) (e : Place × Rest) → IsPlaceOf h p → e.0.arrival ≡ h.0 → order_at e.0 e.1 ≡ h.1 → place_cmp p e.0 ≡ Equal
same_place h p e i a o =
    ap₂ ordering_then (ap (λ s. slice_cmp nat_cmp s (string_bytes e.0.symbol)) (i.symbol ∙ sym (ap (λ (o : Order). o.symbol) o)) ∙ tied_itself nat_list_cmp_total (string_bytes e.0.symbol))
    (
    ap₂ ordering_then (ap (λ b. bool_cmp b e.0.sell) (i.sell ∙ sym (ap (λ (o : Order). o.sell) o)) ∙ same e.0.sell)
    (
    ap₂ ordering_then (ap (λ z. int_cmp z e.0.rank) (i.rank ∙ sym (ap rank_of o) ∙ rank_at e.0 e.1) ∙ tied_itself int_cmp_total e.0.rank)
    (ap (λ n. nat_cmp n e.0.arrival) (i.arrival ∙ sym a) ∙ tied_itself nat_cmp_total e.0.arrival)
    )
    )
  where
    same : (b : Bool) → bool_cmp b b ≡ Equal
    same true = refl
    same false = refl

pub found_at : (h : Arrived) (p : Place) (es : List (Place × Rest)) → IsPlaceOf h p → Found h (by_arrival es) → (r : Rest) × (lookup (is_at (place_cmp p)) es ≡ Some r)
found_at h p [] i f = absurd f
found_at h p (e ∷ es) i f = go (is_eq (place_cmp p e.0)) refl (found_put h (arrived e) (by_arrival es) f) (found_at h p es i)
  where
    go : (b : Bool) → is_eq (place_cmp p e.0) ≡ b → ((e.0.arrival ≡ h.0) × (order_at e.0 e.1 ≡ h.1)) ⊎ Found h (by_arrival es) →
        (Found h (by_arrival es) → (r : Rest) × (lookup (is_at (place_cmp p)) es ≡ Some r)) → (r : Rest) × (cond b (Some e.1) (lookup (is_at (place_cmp p)) es) ≡ Some r)
    go true k s again = (e.1, refl)
    go false k (inl s) again = absurd (false≢true (sym k ∙ ap is_eq (same_place h p e i s.0 s.1)))
    go false k (inr s) again = again s

-- an order at the place that was made for it
pub placed : (o : Order) (p : Place) (r : Rest) (left : ℤ) → string_bytes p.symbol ≡ o.symbol → p.sell ≡ o.sell → p.rank ≡ rank_of o →
    r.id ≡ o.id → r.qty ≡ left → r.trader ≡ o.trader → order_at p r ≡ record o { qty = left }
placed o p r left e f g i q t =
    ap₂ (λ (s : List ℕ) (z : ℤ). record { id = r.id; limit = z; qty = r.qty; symbol = s; trader = r.trader; sell = p.sell }) e (ap₂ (λ b z. cond b z (neg_ℤ z)) f g ∙ limit o.sell)
    ∙ ap (λ b. record { id = r.id; limit = o.limit; qty = r.qty; symbol = o.symbol; trader = r.trader; sell = b }) f
    ∙ ap₂ (λ z n. record { id = z; limit = o.limit; qty = r.qty; symbol = o.symbol; trader = n; sell = o.sell }) i t
    ∙ ap (λ z. record { id = o.id; limit = o.limit; qty = z; symbol = o.symbol; trader = o.trader; sell = o.sell }) q
  where
    limit : (b : Bool) → cond b (cond b o.limit (neg_ℤ o.limit)) (neg_ℤ (cond b o.limit (neg_ℤ o.limit))) ≡ o.limit
    limit true = refl
    limit false = grind (arith, ints)

-- one more order rests, the last
pub came : (o : Order) (p : Place) (r : Rest) (left : ℤ) (arrivals : ℕ) (es fs : List (Place × Rest)) (e : Place × Rest) → fs ≡ insert_entry place_cmp es e.0 e.1 → e ≡ (p, r) →
    IsInOrder 0 arrivals (by_arrival es) → p.arrival ≡ arrivals → order_at p r ≡ record o { qty = left } → by_arrival fs ≡ by_arrival es ++ (arrivals, record o { qty = left }) ∷ []
came o p r left arrivals es fs e f g i a h =
    ap by_arrival (f ∙ ap (λ (e : Place × Rest). insert_entry place_cmp es e.0 e.1) g)
    ∙ inserted p r es (subst (λ n. IsInOrder 0 n (by_arrival es)) (sym a) i) ∙ ap₂ (λ (n : ℕ) (o : Order). by_arrival es ++ (n, o) ∷ []) a h
