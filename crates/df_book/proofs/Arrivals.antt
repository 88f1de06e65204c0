-- Orders in order of arrival, as one comes, goes, or has less left.
use Rattle.std.proofs.Common.{◌≡◌, ℕ, suc, ◌+◌, ◌≤◌, ◌<◌, ◌≢◌, List, [], ◌∷◌, ◌++◌, Bool, true, false, cond, refl, sym, ◌∙◌, ap, arith}
use Rattle.std.proofs.lemmas.Int.{ints}
use Rattle.std.specs.Prelude.{ℤ, pos, int_lt, nat_lt, ◌==◌}
use Rattle.std.proofs.lemmas.Bool.{ltb-true, lt-ltb, le-ltb, eq-eqb, ne_eqb}
use Rattle.df_book.specs.declared.order.Order.{Order}
use Rattle.df_book.specs.code.Places.{put, MayRest, IsInOrder, left_at}

abbrev pub Arrived : Type 0
Arrived = ℕ × Order

-- no order of the list has this arrival
abbrev pub Apart : ℕ → List Arrived → Type 0
Apart a [] = Unit {0}
Apart a (x ∷ xs) = (x.0 ≢ a) × Apart a xs

pub lowered : (k n m : ℕ) (xs : List Arrived) → k ≤ n → IsInOrder n m xs → IsInOrder k m xs
lowered k n m [] h i = tt
lowered k n m (x ∷ xs) h i = let a = i.0 in (omega arith, i.1, i.2, i.3)

pub raised : (n m k : ℕ) (xs : List Arrived) → m ≤ k → IsInOrder n m xs → IsInOrder n k xs
raised n m k [] h i = tt
raised n m k (x ∷ xs) h i = let a = i.1 in (i.0, omega arith, i.2, raised (suc x.0) m k xs h i.3)

apart_below : (a n m : ℕ) (xs : List Arrived) → a < n → IsInOrder n m xs → Apart a xs
apart_below a n m [] h i = tt
apart_below a n m (x ∷ xs) h i = let b = i.0 in ((λ e. omega arith), apart_below a (suc x.0) m xs (omega arith) i.3)

-- what an order that was put in says of the others
pub record Taken (n m : ℕ) (e : Arrived) (xs : List Arrived) : Type 0 where
  pub from : n ≤ e.0
  pub below : e.0 < m
  pub may_rest : MayRest e.1
  pub others : IsInOrder n m xs
  pub apart : Apart e.0 xs

pub taken : (n m : ℕ) (e : Arrived) (xs : List Arrived) → IsInOrder n m (put e xs) → Taken n m e xs
taken n m e [] i = record { from = i.0; below = i.1; may_rest = i.2; others = tt; apart = tt }
taken n m e (x ∷ xs) i = go (nat_lt e.0 x.0) refl i (taken (suc x.0) m e xs)
  where
    go : (b : Bool) → nat_lt e.0 x.0 ≡ b → IsInOrder n m (cond b (e ∷ x ∷ xs) (x ∷ put e xs)) → (IsInOrder (suc x.0) m (put e xs) → Taken (suc x.0) m e xs) → Taken n m e (x ∷ xs)
    go true h i again =
        let a = i.0 in
        let b = i.3.0 in
        record {
          from = i.0;
          below = i.1;
          may_rest = i.2;
          others = (omega arith, i.3.1, i.3.2, i.3.3);
          apart = ((λ q. omega arith), apart_below e.0 (suc x.0) m xs (omega arith) i.3.3);
        }
    go false h i again =
        let t = again i.3 in
        let a = i.0 in
        let b = t.from in
        record {
          from = omega arith;
          below = t.below;
          may_rest = t.may_rest;
          others = (i.0, i.1, i.2, t.others);
          apart = ((λ q. omega arith), t.apart);
        }

-- an order that comes last

pub put_last : (n m : ℕ) (e : Arrived) (xs : List Arrived) → IsInOrder n m xs → m ≤ e.0 → put e xs ≡ xs ++ e ∷ []
put_last n m e [] i h = refl
put_last n m e (x ∷ xs) i h =
    let below = i.1 in
    ap (λ b. cond b (e ∷ x ∷ xs) (x ∷ put e xs)) (le-ltb e.0 x.0 (omega arith)) ∙ ap (λ ys. x ∷ ys) (put_last (suc x.0) m e xs i.3 h)

pub put_ahead : (e x : Arrived) (xs : List Arrived) → e.0 < x.0 → put e (xs ++ x ∷ []) ≡ put e xs ++ x ∷ []
put_ahead e x [] h = ap (λ b. cond b (e ∷ x ∷ []) (x ∷ e ∷ [])) (lt-ltb e.0 x.0 h)
put_ahead e x (y ∷ ys) h = go (nat_lt e.0 y.0) (put_ahead e x ys h)
  where
    go : (b : Bool) → put e (ys ++ x ∷ []) ≡ put e ys ++ x ∷ [] → cond b (e ∷ y ∷ (ys ++ x ∷ [])) (y ∷ put e (ys ++ x ∷ [])) ≡ cond b (e ∷ y ∷ ys) (y ∷ put e ys) ++ x ∷ []
    go true ih = refl
    go false ih = ap (λ zs. y ∷ zs) ih

pub put_first : (n m : ℕ) (e : Arrived) (xs : List Arrived) → e.0 < n → IsInOrder n m xs → put e xs ≡ e ∷ xs
put_first n m e [] h i = refl
put_first n m e (x ∷ xs) h i = let a = i.0 in ap (λ b. cond b (e ∷ x ∷ xs) (x ∷ put e xs)) (lt-ltb e.0 x.0 (omega arith))

pub appended : (n m : ℕ) (o : Order) (xs : List Arrived) → n ≤ m → IsInOrder n m xs → MayRest o → IsInOrder n (m + 1) (xs ++ (m, o) ∷ [])
appended n m o [] h i r = (h, omega arith, r, tt)
appended n m o (x ∷ xs) h i r = let a = i.1 in (i.0, omega arith, i.2, appended (suc x.0) m o xs (omega arith) i.3 r)

-- an order of which so much is left

pub left_put : (a : ℕ) (left : ℤ) (o : Order) (xs : List Arrived) → Apart a xs → left_at a left (put (a, o) xs) ≡ cond (int_lt (pos 0) left) (put (a, record o { qty = left }) xs) xs
left_put a left o [] h = ap (λ b. cond b (cond (int_lt (pos 0) left) ((a, record o { qty = left }) ∷ []) []) ((a, o) ∷ [])) (eq-eqb a a refl)
left_put a left o (x ∷ xs) h = go (nat_lt a x.0) (left_put a left o xs h.1)
  where
    there : (c : Bool) → x ∷ cond c (put (a, record o { qty = left }) xs) xs ≡ cond c (x ∷ put (a, record o { qty = left }) xs) (x ∷ xs)
    there true = refl
    there false = refl

    go : (b : Bool) → left_at a left (put (a, o) xs) ≡ cond (int_lt (pos 0) left) (put (a, record o { qty = left }) xs) xs →
        left_at a left (cond b ((a, o) ∷ x ∷ xs) (x ∷ put (a, o) xs)) ≡ cond (int_lt (pos 0) left) (cond b ((a, record o { qty = left }) ∷ x ∷ xs) (x ∷ put (a, record o { qty = left }) xs)) (x ∷ xs)
    go true ih = ap (λ b. cond b (cond (int_lt (pos 0) left) ((a, record o { qty = left }) ∷ x ∷ xs) (x ∷ xs)) ((a, o) ∷ left_at a left (x ∷ xs))) (eq-eqb a a refl)
    go false ih =
        ap (λ b. cond b (cond (int_lt (pos 0) left) ((x.0, record x.1 { qty = left }) ∷ put (a, o) xs) (put (a, o) xs)) (x ∷ left_at a left (put (a, o) xs))) (ne_eqb x.0 a h.0)
        ∙ ap (λ ys. x ∷ ys) ih ∙ there (int_lt (pos 0) left)

-- the list where the order x stands in front, with so much left of it
abbrev Fronted : ℤ → Arrived → List Arrived → List Arrived
Fronted left x xs = cond (int_lt (pos 0) left) ((x.0, record x.1 { qty = left }) ∷ xs) xs

pub left_past : (n m a : ℕ) (left : ℤ) (e : Arrived) (xs : List Arrived) → e.0 ≢ a → IsInOrder n m xs → left_at a left (put e xs) ≡ put e (left_at a left xs)
left_past n m a left e [] h i = ap (λ b. cond b (cond (int_lt (pos 0) left) ((e.0, record e.1 { qty = left }) ∷ []) []) (e ∷ [])) (ne_eqb e.0 a h)
left_past n m a left e (x ∷ xs) h i = go (nat_lt e.0 x.0) refl (x.0 == a) (left_past (suc x.0) m a left e xs h i.3)
  where
    first : (c : Bool) → nat_lt e.0 x.0 ≡ true → e ∷ cond c ((x.0, record x.1 { qty = left }) ∷ xs) xs ≡ put e (cond c ((x.0, record x.1 { qty = left }) ∷ xs) xs)
    first true k = sym (ap (λ b. cond b (e ∷ (x.0, record x.1 { qty = left }) ∷ xs) ((x.0, record x.1 { qty = left }) ∷ put e xs)) k)
    first false k = let l = ltb-true e.0 x.0 k in sym (put_first (suc x.0) m e xs (omega arith) i.3)

    later : (c : Bool) → nat_lt e.0 x.0 ≡ false → cond c ((x.0, record x.1 { qty = left }) ∷ put e xs) (put e xs) ≡ put e (cond c ((x.0, record x.1 { qty = left }) ∷ xs) xs)
    later true k = sym (ap (λ b. cond b (e ∷ (x.0, record x.1 { qty = left }) ∷ xs) ((x.0, record x.1 { qty = left }) ∷ put e xs)) k)
    later false k = refl

    ahead : (d : Bool) → nat_lt e.0 x.0 ≡ true → e ∷ cond d (Fronted left x xs) (x ∷ left_at a left xs) ≡ put e (cond d (Fronted left x xs) (x ∷ left_at a left xs))
    ahead true k = first (int_lt (pos 0) left) k
    ahead false k = sym (ap (λ b. cond b (e ∷ x ∷ left_at a left xs) (x ∷ put e (left_at a left xs))) k)

    behind : (d : Bool) → nat_lt e.0 x.0 ≡ false → left_at a left (put e xs) ≡ put e (left_at a left xs) →
        cond d (Fronted left x (put e xs)) (x ∷ left_at a left (put e xs)) ≡ put e (cond d (Fronted left x xs) (x ∷ left_at a left xs))
    behind true k ih = later (int_lt (pos 0) left) k
    behind false k ih = ap (λ ys. x ∷ ys) ih ∙ sym (ap (λ b. cond b (e ∷ x ∷ left_at a left xs) (x ∷ put e (left_at a left xs))) k)

    go : (b : Bool) → nat_lt e.0 x.0 ≡ b → (d : Bool) → left_at a left (put e xs) ≡ put e (left_at a left xs) →
        left_at a left (cond b (e ∷ x ∷ xs) (x ∷ put e xs)) ≡ put e (cond (x.0 == a) (Fronted left x xs) (x ∷ left_at a left xs))
    go true k d ih = ap (λ b. cond b (Fronted left e (x ∷ xs)) (e ∷ left_at a left (x ∷ xs))) (ne_eqb e.0 a h) ∙ ahead (x.0 == a) k
    go false k d ih = behind (x.0 == a) k ih

pub left_in_order : (n m a : ℕ) (left : ℤ) (xs : List Arrived) → IsInOrder n m xs → IsInOrder n m (left_at a left xs)
left_in_order n m a left [] i = tt
left_in_order n m a left (x ∷ xs) i = go (x.0 == a) (int_lt (pos 0) left) refl (left_in_order (suc x.0) m a left xs i.3)
  where
    go : (d c : Bool) → int_lt (pos 0) left ≡ c → IsInOrder (suc x.0) m (left_at a left xs) → IsInOrder n m (cond d (cond c ((x.0, record x.1 { qty = left }) ∷ xs) xs) (x ∷ left_at a left xs))
    go true true k ih = (i.0, i.1, record { qty = grind (arith, ints); limit = i.2.limit; limit_fits = i.2.limit_fits }, i.3)
    go true false k ih = let b = i.0 in lowered n (suc x.0) m xs (omega arith) i.3
    go false c k ih = (i.0, i.1, i.2, ih)
