-- What an order does with the entries of a tree that stand in its span.
use Rattle.std.proofs.Common.{◌≡◌, ℕ, List, [], ◌∷◌, ◌++◌, Bool, true, false, cond, not, ◌&&◌, refl, sym, ◌∙◌, ap, ap₂, map, append_assoc, append-nil}
use Rattle.std.specs.Prelude.{ℤ, pos, ◌-ℤ◌, int_lt, Result, Ok, Err, OnOk}
use Rattle.std.specs.Ordering.{is_gt, is_le, is_lt, ordering_reverse}
use Rattle.std.specs.declared.cmp.Ordering.{Ordering}
use Rattle.std.specs.declared.cmp.Ordering.TheVariants.{Less, Equal, Greater}
use Rattle.std.specs.declared.ops.Bound.TheVariants.{Included}
use Rattle.std.specs.BTreeMap.Range.{range_contains}
use Rattle.std.proofs.lemmas.Bool.{false≢true}
use Rattle.df_book.specs.declared.order.Order.{Order}
use Rattle.df_book.specs.declared.place.Place.{Place}
use Rattle.df_book.specs.declared.place.Rest.{Rest}
use Rattle.df_book.specs.declared.plan.Plan.{Plan}
use Rattle.df_book.specs.Submitting.{lesser, trade_of}
use Rattle.df_book.specs.code.Places.{IsInOrder, IsPlan, MayRest, Planned, arrived, behind_all, by_arrival, fill_of, order_at, place_cmp, plan_of}
use Rattle.df_book.specs.code.Trees.{EachMayRest, GoesOn, IsByPlace, spanned}
use Rattle.df_book.proofs.Arrivals.{Arrived, taken}
use Rattle.df_book.proofs.ByPlace.{AllAbove, AllBelow, Entries, above_earlier, below_later, parted, turned}
use Rattle.df_book.proofs.Planned.{ended, nothing_left, planned_first}

-- ---- the entries of a span

spanned_more : (first last : Place) (xs ys : Entries) → spanned first last (xs ++ ys) ≡ spanned first last xs ++ spanned first last ys
spanned_more first last [] ys = refl
spanned_more first last (x ∷ xs) ys = go (range_contains place_cmp (Included first) (Included last) x.0) (spanned_more first last xs ys)
  where
    go : (b : Bool) → spanned first last (xs ++ ys) ≡ spanned first last xs ++ spanned first last ys →
        cond b (x ∷ spanned first last (xs ++ ys)) (spanned first last (xs ++ ys)) ≡ cond b (x ∷ spanned first last xs) (spanned first last xs) ++ spanned first last ys
    go true ih = ap (λ es. x ∷ es) ih
    go false ih = ih

spanned_next : (first last : Place) (b : Bool) (e : Place × Rest) (es : Entries) → range_contains place_cmp (Included first) (Included last) e.0 ≡ b →
    spanned first last (e ∷ es) ≡ cond b (e ∷ spanned first last es) (spanned first last es)
spanned_next first last b e es h = ap (λ b. cond b (e ∷ spanned first last es) (spanned first last es)) h

too_low : (first last p : Place) → place_cmp p first ≡ Less → range_contains place_cmp (Included first) (Included last) p ≡ false
too_low first last p h = ap (λ o. is_le o && not (is_lt (place_cmp last p))) (turned p first Less h)

too_high : (first last p : Place) → place_cmp last p ≡ Less → range_contains place_cmp (Included first) (Included last) p ≡ false
too_high first last p h = ap (λ o. is_le (place_cmp first p) && not (is_lt o)) h ∙ go (is_le (place_cmp first p))
  where
    go : (b : Bool) → b && false ≡ false
    go true = refl
    go false = refl

all_low : (first last : Place) (es : Entries) → AllBelow first es → spanned first last es ≡ []
all_low first last [] a = refl
all_low first last (e ∷ es) a = spanned_next first last false e es (too_low first last e.0 a.0) ∙ all_low first last es a.1

all_high : (first last : Place) (es : Entries) → AllAbove last es → spanned first last es ≡ []
all_high first last [] a = refl
all_high first last (e ∷ es) a = spanned_next first last false e es (too_high first last e.0 a.0) ∙ all_high first last es a.1

is_Less : (o : Ordering) → is_lt o ≡ true → o ≡ Less
is_Less Less h = refl
is_Less Equal h = absurd (false≢true h)
is_Less Greater h = absurd (false≢true h)

is_Greater : (o : Ordering) → is_gt o ≡ true → o ≡ Greater
is_Greater Less h = absurd (false≢true h)
is_Greater Equal h = absurd (false≢true h)
is_Greater Greater h = refl

-- where the entry stands before the span, those behind it are left, and so on
pub from_right : (first last : Place) (l : Entries) (e : Place × Rest) (r : Entries) → IsByPlace (l ++ e ∷ r) → is_lt (place_cmp e.0 first) ≡ true → spanned first last (l ++ e ∷ r) ≡ spanned first last r
from_right first last l e r s h =
    let less = is_Less (place_cmp e.0 first) h in
    spanned_more first last l (e ∷ r) ∙ ap₂ (λ xs ys. xs ++ ys) (all_low first last l (below_later first e.0 l (parted l e r s).below less)) (spanned_next first last false e r (too_low first last e.0 less))

pub from_left : (first last : Place) (l : Entries) (e : Place × Rest) (r : Entries) → IsByPlace (l ++ e ∷ r) → is_gt (place_cmp e.0 last) ≡ true → spanned first last (l ++ e ∷ r) ≡ spanned first last l
from_left first last l e r s h =
    let less = turned e.0 last Greater (is_Greater (place_cmp e.0 last) h) in
    spanned_more first last l (e ∷ r)
    ∙ ap (λ ys. spanned first last l ++ ys) (spanned_next first last false e r (too_high first last e.0 less) ∙ all_high first last r (above_earlier last e.0 r (parted l e r s).above less))
    ∙ append-nil (spanned first last l)

pub from_both : (first last : Place) (l : Entries) (e : Place × Rest) (r : Entries) → is_lt (place_cmp e.0 first) ≡ false → is_gt (place_cmp e.0 last) ≡ false →
    spanned first last (l ++ e ∷ r) ≡ spanned first last l ++ e ∷ spanned first last r
from_both first last l e r h k =
    spanned_more first last l (e ∷ r)
    ∙ ap (λ ys. spanned first last l ++ ys)
    (spanned_next first last true e r
    (ap₂ (λ a b. is_le a && not (is_lt b)) (turned e.0 first (place_cmp e.0 first) refl) (turned e.0 last (place_cmp e.0 last) refl) ∙ go (place_cmp e.0 first) (place_cmp e.0 last) h k))
  where
    go : (a b : Ordering) → is_lt a ≡ false → is_gt b ≡ false → is_le (ordering_reverse a) && not (is_lt (ordering_reverse b)) ≡ true
    go Less b h k = absurd (false≢true (sym h))
    go a Greater h k = absurd (false≢true (sym k))
    go Equal Less h k = refl
    go Equal Equal h k = refl
    go Greater Less h k = refl
    go Greater Equal h k = refl

-- ---- entries whose orders may rest

pub each_may_rest : (m n : ℕ) (es : Entries) → IsInOrder n m (by_arrival es) → EachMayRest es
each_may_rest m n [] i = tt
each_may_rest m n (e ∷ es) i = let t = taken n m (arrived e) (by_arrival es) i in (t.may_rest, each_may_rest m n es t.others)

pub record Each (l : Entries) (e : Place × Rest) (r : Entries) : Type 0 where
  pub left : EachMayRest l
  pub here : MayRest (order_at e.0 e.1)
  pub right : EachMayRest r

pub each_parted : (l : Entries) (e : Place × Rest) (r : Entries) → EachMayRest (l ++ e ∷ r) → Each l e r
each_parted [] e r m = record { left = tt; here = m.0; right = m.1 }
each_parted (x ∷ l) e r m = let t = each_parted l e r m.1 in record { left = (m.0, t.left); here = t.here; right = t.right }

-- ---- a plan goes on

pub stays : (o : Order) (es : Entries) (p : Plan) → int_lt (pos 0) p.left ≡ false → GoesOn o es p p
stays o es p e = ended _ (plan_of o p.left (map arrived es)) p refl (nothing_left o p.left (map arrived es) e)

pub no_more : (o : Order) (p : Plan) → GoesOn o [] p p
no_more o p = ended _ (plan_of o p.left []) p refl refl

pub one_more : (o : Order) (e : Place × Rest) (p q : Plan) → int_lt (pos 0) p.left ≡ true →
    q.trades.items ≡ p.trades.items ++ trade_of o (order_at e.0 e.1) (lesser p.left e.1.qty) ∷ [] → q.fills.items ≡ p.fills.items ++ fill_of p.left (arrived e) ∷ [] →
    q.left ≡ p.left -ℤ lesser p.left e.1.qty → GoesOn o (e ∷ []) p q
one_more o e p q h t f l =
    let first = planned_first o p.left (arrived e) [] h in
    record {
      trades = t ∙ sym (ap (λ (x : Planned). p.trades.items ++ x.trades) first);
      fills = f ∙ sym (ap (λ (x : Planned). p.fills.items ++ x.fills) first);
      left = l ∙ sym (ap (λ (x : Planned). x.left) first);
    }

-- a plan where the first of the queue is traded with, and one where nothing is
abbrev next : Order → ℤ → Arrived → List Arrived → Planned
next o left x zs = behind_all (trade_of o x.1 (lesser left x.1.qty) ∷ []) (fill_of left x ∷ []) (plan_of o (left -ℤ lesser left x.1.qty) zs)

abbrev none : ℤ → Planned
none left = record { trades = []; fills = []; left = left }

plan_more : (o : Order) (left : ℤ) (xs ys : List Arrived) →
    plan_of o left (xs ++ ys) ≡ behind_all (plan_of o left xs).trades (plan_of o left xs).fills (plan_of o (plan_of o left xs).left ys)
plan_more o left [] ys = refl
plan_more o left (x ∷ xs) ys = go (int_lt (pos 0) left) refl (plan_more o (left -ℤ lesser left x.1.qty) xs ys)
  where
    go : (b : Bool) → int_lt (pos 0) left ≡ b →
        plan_of o (left -ℤ lesser left x.1.qty) (xs ++ ys)
        ≡ behind_all (plan_of o (left -ℤ lesser left x.1.qty) xs).trades (plan_of o (left -ℤ lesser left x.1.qty) xs).fills (plan_of o (plan_of o (left -ℤ lesser left x.1.qty) xs).left ys) →
        cond b ((next o left x (xs ++ ys))) (none left) ≡ behind_all (cond b ((next o left x xs)) (none left)).trades (cond b ((next o left x xs)) (none left)).fills (plan_of o (cond b ((next o left x xs)) (none left)).left ys)
    go true e ih = ap (behind_all (trade_of o x.1 (lesser left x.1.qty) ∷ []) (fill_of left x ∷ [])) ih
    go false e ih = sym (nothing_left o left ys e)

map_more : (xs ys : Entries) → map arrived (xs ++ ys) ≡ map arrived xs ++ map arrived ys
map_more [] ys = refl
map_more (x ∷ xs) ys = ap (λ zs. arrived x ∷ zs) (map_more xs ys)

pub goes_further : (o : Order) (xs ys : Entries) (p q r : Plan) → GoesOn o xs p q → GoesOn o ys q r → GoesOn o (xs ++ ys) p r
goes_further o xs ys p q r a b =
    let all = ap (plan_of o p.left) (map_more xs ys) ∙ plan_more o p.left (map arrived xs) (map arrived ys) in
    let first = plan_of o p.left (map arrived xs) in
    record {
      trades = b.trades ∙ ap₂ (λ ts z. ts ++ (plan_of o z (map arrived ys)).trades) a.trades a.left
          ∙ append_assoc p.trades.items first.trades (plan_of o first.left (map arrived ys)).trades ∙ sym (ap (λ (x : Planned). p.trades.items ++ x.trades) all);
      fills = b.fills ∙ ap₂ (λ fs z. fs ++ (plan_of o z (map arrived ys)).fills) a.fills a.left
          ∙ append_assoc p.fills.items first.fills (plan_of o first.left (map arrived ys)).fills ∙ sym (ap (λ (x : Planned). p.fills.items ++ x.fills) all);
      left = b.left ∙ ap (λ z. (plan_of o z (map arrived ys)).left) a.left ∙ sym (ap (λ (x : Planned). x.left) all);
    }

pub passed : {X E P Q : Type 0} (r : Result X E) → OnOk r P → (P → Q) → OnOk r Q
passed (Ok x) h f = f h
passed (Err e) h f = tt

-- a plan that began with nothing
pub begins : (o : Order) (qty : ℤ) (es : Entries) (q : List Arrived) (p r : Plan) → p.trades.items ≡ [] → p.fills.items ≡ [] → p.left ≡ qty → map arrived es ≡ q → GoesOn o es p r → IsPlan (plan_of o qty q) r
begins o qty es q p r t f l e g = record {
  trades = g.trades ∙ ap₂ (λ ts z. ts ++ (plan_of o z (map arrived es)).trades) t l ∙ ap (λ xs. (plan_of o qty xs).trades) e;
  fills = g.fills ∙ ap₂ (λ fs z. fs ++ (plan_of o z (map arrived es)).fills) f l ∙ ap (λ xs. (plan_of o qty xs).fills) e;
  left = g.left ∙ ap (λ z. (plan_of o z (map arrived es)).left) l ∙ ap (λ xs. (plan_of o qty xs).left) e;
}
