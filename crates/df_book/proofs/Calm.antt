-- Orders that rest don't meet one another.
use Rattle.std.proofs.Common.{◌≡◌, ℕ, zero, suc, ◌+◌, ◌≤◌, List, [], ◌∷◌, ◌++◌, Bool, true, false, not, ◌&&◌, cond, refl, sym, ◌∙◌, ap, ap₂, subst, Option, Some, None, ◌⊎◌, inl, inr, append-nil, length, arith}
use Rattle.std.specs.Prelude.{ℤ, pos, ◌-ℤ◌, int_lt, int_le, fold, Contains}
use Rattle.std.proofs.lemmas.List.Elements.{Contains-append_cases, Contains-push_cases}
use Rattle.std.proofs.lemmas.Cmp.{nat_list_eq_equiv}
use Rattle.df_book.specs.declared.order.Order.{Order}
use Rattle.df_book.specs.Submitting.{Picked, Submitted, meets, is_better, behind_one, better_of, best, if_left, rested, met, matched, submitted, resting_after, NoneMeets}
use Rattle.df_book.proofs.Planned.{not_itself, none_left, unmatched}

-- a meets no order of the list
abbrev Unmet : Order → List Order → Type 0
Unmet a [] = Unit {0}
Unmet a (x ∷ xs) = (meets a x ≡ false) × Unmet a xs

-- no order of the list meets one behind it
abbrev pub Calm : List Order → Type 0
Calm [] = Unit {0}
Calm (x ∷ xs) = Unmet x xs × Calm xs

-- two orders meet each other
both_ways : (a b : Order) → meets a b ≡ meets b a
both_ways a b = ap₂ (λ p q. p && q) (nat_list_eq_equiv.symm a.symbol b.symbol) (go a.sell b.sell (int_le a.limit b.limit) (int_le b.limit a.limit))
  where
    go : (x y c d : Bool) → cond x (not y && c) (y && d) ≡ cond y (not x && d) (x && c)
    go true true c d = refl
    go true false c d = refl
    go false true c d = refl
    go false false c d = refl

first_or_behind : (x a : Order) (xs : List Order) → Contains (x ∷ xs) a → (x ≡ a) ⊎ Contains xs a
first_or_behind x a xs k = go (Contains-append_cases (x ∷ []) xs a k)
  where
    here : Contains [] a ⊎ (x ≡ a) → (x ≡ a) ⊎ Contains xs a
    here (inl e) = absurd (let l = e.1 in omega arith)
    here (inr e) = inl e

    go : Contains (x ∷ []) a ⊎ Contains xs a → (x ≡ a) ⊎ Contains xs a
    go (inl h) = here (Contains-push_cases [] x a h)
    go (inr h) = inr h

unmet_found : (a b : Order) (xs : List Order) → Unmet a xs → Contains xs b → meets a b ≡ false
unmet_found a b [] u k = absurd (let l = k.1 in omega arith)
unmet_found a b (x ∷ xs) u k = go (first_or_behind x b xs k) (unmet_found a b xs u.1)
  where
    go : (x ≡ b) ⊎ Contains xs b → (Contains xs b → meets a b ≡ false) → meets a b ≡ false
    go (inl e) again = subst (λ y. meets a y ≡ false) e u.0
    go (inr h) again = again h

pub none_meets : (book : List Order) → Calm book → NoneMeets book
none_meets [] c a b k l = absurd (let m = k.1 in omega arith)
none_meets (x ∷ xs) c a b k l = go (first_or_behind x a xs k) (first_or_behind x b xs l) (none_meets xs c.1 a b)
  where
    go : (x ≡ a) ⊎ Contains xs a → (x ≡ b) ⊎ Contains xs b → (Contains xs a → Contains xs b → meets a b ≡ false) → meets a b ≡ false
    go (inl e) (inl f) again = ap₂ meets (sym e) (sym f) ∙ not_itself x x.qty
    go (inl e) (inr h) again = subst (λ y. meets y b ≡ false) e (unmet_found x b xs c.0 h)
    go (inr h) (inl f) again = both_ways a b ∙ subst (λ y. meets y a ≡ false) f (unmet_found x a xs c.0 h)
    go (inr h) (inr g) again = again h g

-- ---- lists that part, and parts that are put together

unmet_parts : (a : Order) (xs ys : List Order) → Unmet a (xs ++ ys) → Unmet a xs × Unmet a ys
unmet_parts a [] ys u = (tt, u)
unmet_parts a (x ∷ xs) ys u = let p = unmet_parts a xs ys u.1 in ((u.0, p.0), p.1)

unmet_whole : (a : Order) (xs ys : List Order) → Unmet a xs → Unmet a ys → Unmet a (xs ++ ys)
unmet_whole a [] ys u v = v
unmet_whole a (x ∷ xs) ys u v = (u.0, unmet_whole a xs ys u.1 v)

-- less or nothing is left of an order in the list
unmet_left : (a r : Order) (left : ℤ) (xs ys : List Order) → Unmet a (xs ++ r ∷ ys) → Unmet a (xs ++ if_left left r ys)
unmet_left a r left xs ys u = let p = unmet_parts a xs (r ∷ ys) u in unmet_whole a xs (if_left left r ys) p.0 (go (int_lt (pos 0) left) p.1)
  where
    go : (b : Bool) → Unmet a (r ∷ ys) → Unmet a (cond b (record r { qty = left } ∷ ys) ys)
    go true v = v
    go false v = v.1

calm_left : (r : Order) (left : ℤ) (xs ys : List Order) → Calm (xs ++ r ∷ ys) → Calm (xs ++ if_left left r ys)
calm_left r left [] ys c = go (int_lt (pos 0) left)
  where
    changed : (zs : List Order) → Unmet r zs → Unmet (record r { qty = left }) zs
    changed [] u = tt
    changed (z ∷ zs) u = (u.0, changed zs u.1)

    go : (b : Bool) → Calm (cond b (record r { qty = left } ∷ ys) ys)
    go true = (changed ys c.0, c.1)
    go false = c.1
calm_left r left (x ∷ xs) ys c = (unmet_left x r left xs ys c.0, calm_left r left xs ys c.1)

-- an order that meets none comes last
calm_last : (o : Order) (xs : List Order) → Unmet o xs → Calm xs → Calm (xs ++ o ∷ [])
calm_last o [] u c = (tt, tt)
calm_last o (x ∷ xs) u c = (unmet_whole x xs (o ∷ []) c.0 (both_ways x o ∙ u.0, tt), calm_last o xs u.1 c.1)

calm_rested : (o : Order) (left : ℤ) (book : List Order) → Unmet o book → Calm book → Calm (book ++ if_left left o [])
calm_rested o left book u c = go (int_lt (pos 0) left)
  where
    changed : (zs : List Order) → Unmet o zs → Unmet (record o { qty = left }) zs
    changed [] u = tt
    changed (z ∷ zs) u = (u.0, changed zs u.1)

    go : (b : Bool) → Calm (book ++ cond b (record o { qty = left } ∷ []) [])
    go true = calm_last (record o { qty = left }) book (changed book u) c
    go false = subst Calm (sym (append-nil book)) c

nothing_rested : (o : Order) (left : ℤ) (book : List Order) → int_lt (pos 0) left ≡ false → Calm book → Calm (book ++ if_left left o [])
nothing_rested o left book e c = subst Calm (sym (ap (λ b. book ++ cond b (record o { qty = left } ∷ []) []) e ∙ append-nil book)) c

-- ---- the order that is picked

-- the list is put together of what is picked out of it, or o meets none of it
abbrev Parts : Order → List Order → Option Picked → Type 0
Parts o xs None = Unmet o xs
Parts o xs (Some p) = xs ≡ p.ahead ++ p.order ∷ p.behind

parts : (o : Order) (xs : List Order) → Parts o xs (best o xs)
parts o [] = tt
parts o (x ∷ xs) = go (meets o x) refl (best o xs) (parts o xs)
  where
    better : (p : Picked) (c : Bool) → xs ≡ p.ahead ++ p.order ∷ p.behind → Parts o (x ∷ xs) (cond c (behind_one x (Some p)) (Some (record { ahead = []; order = x; behind = xs })))
    better p true e = ap (λ (ys : List Order). x ∷ ys) e
    better p false e = refl

    go : (b : Bool) → meets o x ≡ b → (p : Option Picked) → Parts o xs p → Parts o (x ∷ xs) (cond b (better_of o x xs p) (behind_one x p))
    go true k None h = refl
    go true k (Some p) h = better p (is_better o p.order x) h
    go false k None h = (k, h)
    go false k (Some p) h = ap (λ (ys : List Order). x ∷ ys) h

length-append : (xs ys : List Order) → length (xs ++ ys) ≡ length ys + length xs
length-append [] ys = omega arith
length-append (x ∷ xs) ys = let e = length-append xs ys in omega arith

calm_matched : (o : Order) (k : ℕ) (left : ℤ) (book : List Order) → length book ≤ k → Calm book → Calm (matched o k left book).resting
calm_matched o zero left [] h c = calm_rested o left [] tt tt
calm_matched o zero left (x ∷ xs) h c = absurd (omega arith)
calm_matched o (suc k) left book h c = go (int_lt (pos 0) left) refl (best o book) (parts o book) (λ left ys l d. calm_matched o k left ys l d)
  where
    traded : (p : Picked) (b : Bool) → book ≡ p.ahead ++ p.order ∷ p.behind → ((left : ℤ) (ys : List Order) → length ys ≤ k → Calm ys → Calm (matched o k left ys).resting) →
        Calm (matched o k (left -ℤ cond b left p.order.qty) (p.ahead ++ if_left (p.order.qty -ℤ cond b left p.order.qty) p.order p.behind)).resting
    traded p true e again =
        let calm = calm_left p.order (p.order.qty -ℤ left) p.ahead p.behind (subst Calm e c) in
        let none = ap (λ z. int_lt (pos 0) z) (none_left left) in
        subst (λ (s : Submitted). Calm s.resting) (sym (unmatched o k (left -ℤ left) (p.ahead ++ if_left (p.order.qty -ℤ left) p.order p.behind) none))
        (nothing_rested o (left -ℤ left) (p.ahead ++ if_left (p.order.qty -ℤ left) p.order p.behind) none calm)
    traded p false e again =
        let calm = calm_left p.order (p.order.qty -ℤ p.order.qty) p.ahead p.behind (subst Calm e c) in
        let gone : if_left (p.order.qty -ℤ p.order.qty) p.order p.behind ≡ p.behind =
        ap (λ z. cond (int_lt (pos 0) z) (record p.order { qty = z } ∷ p.behind) p.behind) (none_left p.order.qty)
        in
        let size = ap length e ∙ length-append p.ahead (p.order ∷ p.behind) in
        let rest = ap (λ ys. length (p.ahead ++ ys)) gone ∙ length-append p.ahead p.behind in
        again (left -ℤ p.order.qty) (p.ahead ++ if_left (p.order.qty -ℤ p.order.qty) p.order p.behind) (omega arith) calm

    go : (b : Bool) → int_lt (pos 0) left ≡ b → (p : Option Picked) → Parts o book p → ((left : ℤ) (ys : List Order) → length ys ≤ k → Calm ys → Calm (matched o k left ys).resting) →
        Calm (cond b (met (matched o k) o left book p) (rested o left book)).resting
    go false e p u again = nothing_rested o left book e c
    go true e None u again = calm_rested o left book u c
    go true e (Some p) u again = traded p (int_lt left p.order.qty) u again

after : (orders book : List Order) → Calm book → Calm (fold (λ book o. (submitted o book).resting) book orders)
after [] book c = c
after (o ∷ os) book c = after os (submitted o book).resting (calm_matched o (length book) o.qty book (omega arith) c)

pub after_is_calm : (orders : List Order) → Calm (resting_after orders)
after_is_calm orders = after orders [] tt
