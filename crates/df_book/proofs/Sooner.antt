-- What came first of all that rests, against the orders in order of arrival.
use Rattle.std.proofs.Common.{◌≡◌, ℕ, suc, ◌+◌, ◌≤◌, ◌<◌, List, [], ◌∷◌, ◌++◌, Bool, true, false, cond, refl, sym, ◌∙◌, ap, ap₂, subst, Some, None, drop, arith}
use Rattle.std.specs.Prelude.{Option, nat_lt}
use Rattle.std.specs.Map.{values_of}
use Rattle.std.proofs.lemmas.Bool.{ltb-true, ltb-false, lt-ltb, le-ltb}
use Rattle.std.proofs.lemmas.Option.{none-some, same_Some}
use Rattle.df_book.specs.declared.order.Order.{Order}
use Rattle.df_book.specs.declared.place.Place.{Place}
use Rattle.df_book.specs.declared.place.Rest.{Rest}
use Rattle.df_book.specs.code.Earliest.{due, earliest, since, sooner, sooner_of}
use Rattle.df_book.specs.code.Places.{IsInOrder, arrived, by_arrival, put}
use Rattle.df_book.proofs.Arrivals.{Arrived, taken}

-- the first of a list
abbrev first_in : {A : Type 0} → List A → Option A
first_in [] = None
first_in (x ∷ xs) = Some x

-- one more order among the others
abbrev Puts : ℕ → Arrived → List Arrived → Type 0
Puts from e xs = first_in (since from (put e xs)) ≡ sooner (cond (nat_lt e.0 from) None (Some e)) (first_in (since from xs))

put_since : (n m from : ℕ) (e : Arrived) (xs : List Arrived) → IsInOrder n m xs → Puts from e xs
put_since n m from e [] i = go (nat_lt e.0 from)
  where
    go : (b : Bool) → first_in (cond b [] (e ∷ [])) ≡ sooner (cond b None (Some e)) None
    go true = refl
    go false = refl
put_since n m from e (x ∷ xs) i = go (nat_lt e.0 x.0) refl (put_since (suc x.0) m from e xs i.3)
  where
    ahead : (b : Bool) → nat_lt e.0 from ≡ b → nat_lt e.0 x.0 ≡ true → first_in (cond b (since from (x ∷ xs)) (e ∷ x ∷ xs)) ≡ sooner (cond b None (Some e)) (first_in (since from (x ∷ xs)))
    ahead true h k = refl
    ahead false h k =
        let low = ltb-false e.0 from h in
        sym (ap (λ b. sooner (Some e) (first_in (cond b (since from xs) (x ∷ xs)))) (le-ltb x.0 from (let near = ltb-true e.0 x.0 k in omega arith)) ∙ ap (λ b. cond b (Some e) (Some x)) k)

    behind : (b : Bool) → nat_lt x.0 from ≡ b → nat_lt e.0 x.0 ≡ false → Puts from e xs →
        first_in (cond b (since from (put e xs)) (x ∷ put e xs)) ≡ sooner (cond (nat_lt e.0 from) None (Some e)) (first_in (cond b (since from xs) (x ∷ xs)))
    behind true h k ih = ih
    behind false h k ih =
        let low = ltb-false e.0 x.0 k in
        let high = ltb-false x.0 from h in
        sym (ap (λ b. sooner (cond b None (Some e)) (Some x)) (le-ltb e.0 from (omega arith)) ∙ ap (λ b. cond b (Some e) (Some x)) k)

    go : (a : Bool) → nat_lt e.0 x.0 ≡ a → Puts from e xs →
        first_in (since from (cond a (e ∷ x ∷ xs) (x ∷ put e xs))) ≡ sooner (cond (nat_lt e.0 from) None (Some e)) (first_in (since from (x ∷ xs)))
    go true k ih = ahead (nat_lt e.0 from) refl k
    go false k ih = behind (nat_lt x.0 from) refl k ih

earliest_is : (m from : ℕ) (es : List (Place × Rest)) → IsInOrder 0 m (by_arrival es) → earliest from es ≡ first_in (since from (by_arrival es))
earliest_is m from [] i = refl
earliest_is m from (e ∷ es) i =
    let t = taken 0 m (arrived e) (by_arrival es) i in
    ap (sooner (due from e)) (earliest_is m from es t.others) ∙ sym (put_since 0 m from (arrived e) (by_arrival es) t.others)

since_low : (n m from : ℕ) (xs : List Arrived) → from ≤ n → IsInOrder n m xs → since from xs ≡ xs
since_low n m from [] h i = refl
since_low n m from (x ∷ xs) h i = let a = i.0 in ap (λ b. cond b (since from xs) (x ∷ xs)) (le-ltb x.0 from (omega arith))

-- x came first of all that arrived from a number on
pub record Next (m from : ℕ) (x : Arrived) (xs : List Arrived) : Type 0 where
  pub from_on : from ≤ x.0
  pub below : x.0 < m
  pub is : since from xs ≡ x ∷ since (x.0 + 1) xs

next : (n m from : ℕ) (x : Arrived) (xs : List Arrived) → IsInOrder n m xs → first_in (since from xs) ≡ Some x → Next m from x xs
next n m from x [] i e = absurd (none-some x e)
next n m from x (y ∷ ys) i e = go (nat_lt y.0 from) refl e (next (suc y.0) m from x ys i.3)
  where
    here : nat_lt y.0 from ≡ false → Next m from y (y ∷ ys)
    here k = record {
      from_on = ltb-false y.0 from k;
      below = i.1;
      is = ap (λ b. cond b (since from ys) (y ∷ ys)) k
          ∙ ap (λ zs. y ∷ zs) (sym (ap (λ b. cond b (since (y.0 + 1) ys) (y ∷ ys)) (lt-ltb y.0 (y.0 + 1) (omega arith)) ∙ since_low (suc y.0) m (y.0 + 1) ys (omega arith) i.3));
    }

    go : (b : Bool) → nat_lt y.0 from ≡ b → first_in (cond b (since from ys) (y ∷ ys)) ≡ Some x → (first_in (since from ys) ≡ Some x → Next m from x ys) → Next m from x (y ∷ ys)
    go true k e again =
        let t = again e in
        let low = t.from_on in
        let less = ltb-true y.0 from k in
        record {
          from_on = t.from_on;
          below = t.below;
          is = ap (λ b. cond b (since from ys) (y ∷ ys)) k ∙ t.is
              ∙ ap (λ zs. x ∷ zs) (sym (ap (λ b. cond b (since (x.0 + 1) ys) (y ∷ ys)) (lt-ltb y.0 (x.0 + 1) (omega arith))));
        }
    go false k e again = subst (λ z. Next m from z (y ∷ ys)) (same_Some y x e) (here k)

none_in : (zs : List Arrived) → first_in zs ≡ None → zs ≡ []
none_in [] e = refl
none_in (z ∷ zs) e = absurd (none-some z (sym e))

-- whether two lists are equal is still to be told by what arrived from these numbers on
pub record Remaining (n m : ℕ) (xs ys : List Arrived) : Type 0 where
  pub to : values_of (since n xs) ≡ values_of (since m ys) → values_of xs ≡ values_of ys
  pub fro : values_of xs ≡ values_of ys → values_of (since n xs) ≡ values_of (since m ys)

pub begun : (k : ℕ) (xs ys : List Arrived) → IsInOrder 0 k xs → IsInOrder 0 k ys → Remaining 0 0 xs ys
begun k xs ys i j =
    let a = ap values_of (since_low 0 k 0 xs (omega arith) i) in
    let b = ap values_of (since_low 0 k 0 ys (omega arith) j) in
    record { to = λ e. sym a ∙ e ∙ b; fro = λ e. a ∙ e ∙ sym b }

pub went : (n m k : ℕ) (x y : Arrived) (xs ys : List Arrived) → Remaining n m xs ys → Next k n x xs → Next k m y ys → x.1 ≡ y.1 → Remaining (x.0 + 1) (y.0 + 1) xs ys
went n m k x y xs ys r p q o =
    let a = ap values_of p.is in
    let b = ap values_of q.is in
    record {
      to = λ e. r.to (a ∙ ap₂ (λ (v : Order) vs. v ∷ vs) o e ∙ sym b);
      fro = λ e. ap (drop 1) (sym a ∙ r.fro e ∙ b);
    }

-- the order of an arrival
abbrev pub value_in : Option Arrived → Option Order
value_in None = None
value_in (Some x) = Some x.1

front_value : (zs : List Arrived) → first_in (values_of zs) ≡ value_in (first_in zs)
front_value [] = refl
front_value (z ∷ zs) = refl

-- equal lists go on with equal orders
pub fronts : (k n m : ℕ) (es fs : List (Place × Rest)) → IsInOrder 0 k (by_arrival es) → IsInOrder 0 k (by_arrival fs) → Remaining n m (by_arrival es) (by_arrival fs) →
    values_of (by_arrival es) ≡ values_of (by_arrival fs) → value_in (earliest n es) ≡ value_in (earliest m fs)
fronts k n m es fs i j r e =
    ap value_in (earliest_is k n es i) ∙ sym (front_value (since n (by_arrival es))) ∙ ap first_in (r.fro e)
    ∙ front_value (since m (by_arrival fs)) ∙ sym (ap value_in (earliest_is k m fs j))

pub found : (k n : ℕ) (es : List (Place × Rest)) (p : Place) (r : Rest) → IsInOrder 0 k (by_arrival es) → earliest n es ≡ Some (arrived (p, r)) → Next k n (arrived (p, r)) (by_arrival es)
found k n es p r i e = next 0 k n (arrived (p, r)) (by_arrival es) i (sym (earliest_is k n es i) ∙ e)

-- where nothing is left of both, they are equal
pub ended : (k n m : ℕ) (es fs : List (Place × Rest)) → IsInOrder 0 k (by_arrival es) → IsInOrder 0 k (by_arrival fs) → Remaining n m (by_arrival es) (by_arrival fs) →
    earliest n es ≡ None → earliest m fs ≡ None → values_of (by_arrival es) ≡ values_of (by_arrival fs)
ended k n m es fs i j r e f =
    r.to (ap values_of (none_in (since n (by_arrival es)) (sym (earliest_is k n es i) ∙ e)) ∙ sym (ap values_of (none_in (since m (by_arrival fs)) (sym (earliest_is k m fs j) ∙ f))))

-- ---- what came first of several parts

sooner_None : (a : Option Arrived) → sooner a None ≡ a
sooner_None None = refl
sooner_None (Some a) = refl

sooner_assoc : (a b c : Option Arrived) → sooner (sooner a b) c ≡ sooner a (sooner b c)
sooner_assoc None b c = refl
sooner_assoc (Some a) None c = refl
sooner_assoc (Some a) (Some b) None = sooner_None (sooner_of a b)
sooner_assoc (Some a) (Some b) (Some c) = go (nat_lt a.0 b.0) refl (nat_lt b.0 c.0) refl
  where
    go : (x : Bool) → nat_lt a.0 b.0 ≡ x → (y : Bool) → nat_lt b.0 c.0 ≡ y → sooner (cond x (Some a) (Some b)) (Some c) ≡ sooner (Some a) (cond y (Some b) (Some c))
    go true h true k =
        let l = ltb-true a.0 b.0 h in
        let m = ltb-true b.0 c.0 k in
        ap (λ x. cond x (Some a) (Some c)) (lt-ltb a.0 c.0 (omega arith)) ∙ sym (ap (λ x. cond x (Some a) (Some b)) h)
    go true h false k = refl
    go false h true k = ap (λ x. cond x (Some b) (Some c)) k ∙ sym (ap (λ x. cond x (Some a) (Some b)) h)
    go false h false k =
        let l = ltb-false a.0 b.0 h in
        let m = ltb-false b.0 c.0 k in
        ap (λ x. cond x (Some b) (Some c)) k ∙ sym (ap (λ x. cond x (Some a) (Some c)) (le-ltb a.0 c.0 (omega arith)))

earliest_more : (from : ℕ) (es fs : List (Place × Rest)) → earliest from (es ++ fs) ≡ sooner (earliest from es) (earliest from fs)
earliest_more from [] fs = refl
earliest_more from (e ∷ es) fs = ap (sooner (due from e)) (earliest_more from es fs) ∙ sym (sooner_assoc (due from e) (earliest from es) (earliest from fs))

-- the best so far, and what came first to the left, at the entry, and to the right
pub soonest_at : (best : Option Arrived) (from : ℕ) (l : List (Place × Rest)) (e : Place × Rest) (r : List (Place × Rest)) →
    sooner (sooner (sooner best (earliest from l)) (due from e)) (earliest from r) ≡ sooner best (earliest from (l ++ e ∷ r))
soonest_at best from l e r =
    sooner_assoc (sooner best (earliest from l)) (due from e) (earliest from r) ∙ sooner_assoc best (earliest from l) (earliest from (e ∷ r))
    ∙ ap (sooner best) (sym (earliest_more from l (e ∷ r)))
