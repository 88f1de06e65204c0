-- The first order of a queue is the best one, and without it the others are the queue.
use Rattle.std.proofs.Common.{◌≡◌, ℕ, suc, ◌≤◌, ◌<◌, List, [], ◌∷◌, ◌++◌, Bool, true, false, cond, refl, sym, ◌∙◌, ap, subst, Some, None, arith}
use Rattle.std.specs.Prelude.{ℤ, pos, int_lt, ◌==◌, length}
use Rattle.std.specs.Map.{values_of}
use Rattle.std.proofs.lemmas.Bool.{eq-eqb, ne_eqb}
use Rattle.df_book.specs.declared.order.Order.{Order}
use Rattle.df_book.specs.Submitting.{Picked, meets, is_better, behind_one, better_of, best, if_left}
use Rattle.df_book.specs.code.Places.{MayRest, IsInOrder, rank_in, queue, left_at}
use Rattle.df_book.proofs.Arrivals.{Arrived}

-- the orders ahead of an arrival, and those behind it
abbrev pub ahead_of : ℕ → List Arrived → List Arrived
ahead_of a [] = []
ahead_of a (x ∷ xs) = cond (x.0 == a) [] (x ∷ ahead_of a xs)

abbrev pub behind_of : ℕ → List Arrived → List Arrived
behind_of a [] = []
behind_of a (x ∷ xs) = cond (x.0 == a) xs (behind_of a xs)

-- an order as it is picked out of a list
abbrev pub picked : Arrived → List Arrived → Picked
picked h xs = record { ahead = values_of (ahead_of h.0 xs); order = h.1; behind = values_of (behind_of h.0 xs) }

-- the order of this arrival is in the list
abbrev pub Found : Arrived → List Arrived → Type 0
Found h [] = ⊥
Found h (x ∷ xs) = cond (x.0 == h.0) (x.1 ≡ h.1) (Found h xs)

-- what is so of the first of a queue, and of the others
pub record Head (o : Order) (n m : ℕ) (xs : List Arrived) (h : Arrived) (t : List Arrived) : Type 0 where
  pub from : n ≤ h.0
  pub below : h.0 < m
  pub may_rest : MayRest h.1
  pub meets : meets o h.1 ≡ true
  pub found : Found h xs
  pub best : best o (values_of xs) ≡ Some (picked h xs)
  pub gone : queue o (left_at h.0 (pos 0) xs) ≡ t

abbrev pub Heads : Order → ℕ → ℕ → List Arrived → List Arrived → Type 0
Heads o n m xs [] = best o (values_of xs) ≡ None
Heads o n m xs (h ∷ t) = Head o n m xs h t

-- where x stands in front
same_here : (x : Arrived) → (x.0 == x.0) ≡ true
same_here x = eq-eqb x.0 x.0 refl

met_first : (o : Order) (x : Arrived) (xs : List Arrived) → meets o x.1 ≡ true → best o (values_of (x ∷ xs)) ≡ better_of o x.1 (values_of xs) (best o (values_of xs))
met_first o x xs e = ap (λ b. cond b (better_of o x.1 (values_of xs) (best o (values_of xs))) (behind_one x.1 (best o (values_of xs)))) e

not_met : (o : Order) (x : Arrived) (xs : List Arrived) → meets o x.1 ≡ false → best o (values_of (x ∷ xs)) ≡ behind_one x.1 (best o (values_of xs))
not_met o x xs e = ap (λ b. cond b (better_of o x.1 (values_of xs) (best o (values_of xs))) (behind_one x.1 (best o (values_of xs)))) e

-- x itself is the first
head_here : (o : Order) (n m : ℕ) (x : Arrived) (xs t : List Arrived) → IsInOrder n m (x ∷ xs) → meets o x.1 ≡ true → queue o xs ≡ t →
    best o (values_of (x ∷ xs)) ≡ Some (record { ahead = []; order = x.1; behind = values_of xs }) → Head o n m (x ∷ xs) x t
head_here o n m x xs t i e q b = record {
  from = i.0;
  below = i.1;
  may_rest = i.2;
  meets = e;
  found = subst (λ b. cond b (x.1 ≡ x.1) (Found x xs)) (sym (same_here x)) refl;
  best = b ∙ ap (λ b. Some (record { ahead = values_of (cond b [] (x ∷ ahead_of x.0 xs)); order = x.1; behind = values_of (cond b xs (behind_of x.0 xs)) })) (sym (same_here x));
  gone = ap (λ b. queue o (cond b xs (x ∷ left_at x.0 (pos 0) xs))) (same_here x) ∙ q;
}

-- the first is one of those behind x
head_there : (o : Order) (n m : ℕ) (x h : Arrived) (xs t u : List Arrived) → IsInOrder n m (x ∷ xs) → Head o (suc x.0) m xs h t →
    best o (values_of (x ∷ xs)) ≡ behind_one x.1 (Some (picked h xs)) → queue o (x ∷ left_at h.0 (pos 0) xs) ≡ u → Head o n m (x ∷ xs) h u
head_there o n m x h xs t u i d b g =
    let low = i.0 in
    let above = d.from in
    let other : (x.0 == h.0) ≡ false = ne_eqb x.0 h.0 (λ e. omega arith) in
    record {
      from = omega arith;
      below = d.below;
      may_rest = d.may_rest;
      meets = d.meets;
      found = subst (λ b. cond b (x.1 ≡ h.1) (Found h xs)) (sym other) d.found;
      best = b ∙ ap (λ b. Some (record { ahead = values_of (cond b [] (x ∷ ahead_of h.0 xs)); order = h.1; behind = values_of (cond b xs (behind_of h.0 xs)) })) (sym other);
      gone = ap (λ b. queue o (cond b xs (x ∷ left_at h.0 (pos 0) xs))) other ∙ g;
    }

pub heads : (o : Order) (n m : ℕ) (xs : List Arrived) → IsInOrder n m xs → Heads o n m xs (queue o xs)
heads o n m [] i = refl
heads o n m (x ∷ xs) i = go (meets o x.1) refl (queue o xs) refl (heads o (suc x.0) m xs i.3)
  where
    better : (h : Arrived) (t : List Arrived) (c : Bool) → is_better o h.1 x.1 ≡ c → meets o x.1 ≡ true → queue o xs ≡ h ∷ t → Head o (suc x.0) m xs h t →
        Heads o n m (x ∷ xs) (cond c (h ∷ rank_in o x t) (x ∷ h ∷ t))
    better h t true k e q d =
        head_there o n m x h xs t (rank_in o x t) i d
        (met_first o x xs e ∙ ap (better_of o x.1 (values_of xs)) d.best ∙ ap (λ b. cond b (behind_one x.1 (Some (picked h xs))) (Some (record { ahead = []; order = x.1; behind = values_of xs }))) k)
        (ap (λ b. cond b (rank_in o x (queue o (left_at h.0 (pos 0) xs))) (queue o (left_at h.0 (pos 0) xs))) e ∙ ap (rank_in o x) d.gone)
    better h t false k e q d =
        head_here o n m x xs (h ∷ t) i e q
        (met_first o x xs e ∙ ap (better_of o x.1 (values_of xs)) d.best ∙ ap (λ b. cond b (behind_one x.1 (Some (picked h xs))) (Some (record { ahead = []; order = x.1; behind = values_of xs }))) k)

    go : (b : Bool) → meets o x.1 ≡ b → (q : List Arrived) → queue o xs ≡ q → Heads o (suc x.0) m xs q → Heads o n m (x ∷ xs) (cond b (rank_in o x q) q)
    go true e [] k d = head_here o n m x xs [] i e k (met_first o x xs e ∙ ap (better_of o x.1 (values_of xs)) d)
    go true e (h ∷ t) k d = better h t (is_better o h.1 x.1) refl e k d
    go false e [] k d = not_met o x xs e ∙ ap (behind_one x.1) d
    go false e (h ∷ t) k d =
        head_there o n m x h xs t t i d (not_met o x xs e ∙ ap (behind_one x.1) d.best)
        (ap (λ b. cond b (rank_in o x (queue o (left_at h.0 (pos 0) xs))) (queue o (left_at h.0 (pos 0) xs))) e ∙ d.gone)

-- what is left of the order that is found stands between those ahead and those behind
pub left_between : (left : ℤ) (h : Arrived) (xs : List Arrived) → Found h xs → values_of (left_at h.0 left xs) ≡ values_of (ahead_of h.0 xs) ++ if_left left h.1 (values_of (behind_of h.0 xs))
left_between left h [] f = absurd f
left_between left h (x ∷ xs) f = go (x.0 == h.0) f (left_between left h xs)
  where
    there : (c : Bool) → x.1 ≡ h.1 → values_of (cond c ((x.0, record x.1 { qty = left }) ∷ xs) xs) ≡ cond c (record h.1 { qty = left } ∷ values_of xs) (values_of xs)
    there true e = ap (λ (r : Order). record r { qty = left } ∷ values_of xs) e
    there false e = refl

    go : (d : Bool) → cond d (x.1 ≡ h.1) (Found h xs) → (Found h xs → values_of (left_at h.0 left xs) ≡ values_of (ahead_of h.0 xs) ++ if_left left h.1 (values_of (behind_of h.0 xs))) →
        values_of (cond d (cond (int_lt (pos 0) left) ((x.0, record x.1 { qty = left }) ∷ xs) xs) (x ∷ left_at h.0 left xs))
        ≡ values_of (cond d [] (x ∷ ahead_of h.0 xs)) ++ if_left left h.1 (values_of (cond d xs (behind_of h.0 xs)))
    go true e again = there (int_lt (pos 0) left) e
    go false g again = ap (λ (ys : List Order). x.1 ∷ ys) (again g)

pub left_more : (left : ℤ) (h : Arrived) (xs ys : List Arrived) → Found h xs → left_at h.0 left (xs ++ ys) ≡ left_at h.0 left xs ++ ys
left_more left h [] ys f = absurd f
left_more left h (x ∷ xs) ys f = go (x.0 == h.0) f (left_more left h xs ys)
  where
    there : (c : Bool) → cond c ((x.0, record x.1 { qty = left }) ∷ (xs ++ ys)) (xs ++ ys) ≡ cond c ((x.0, record x.1 { qty = left }) ∷ xs) xs ++ ys
    there true = refl
    there false = refl

    go : (d : Bool) → cond d (x.1 ≡ h.1) (Found h xs) → (Found h xs → left_at h.0 left (xs ++ ys) ≡ left_at h.0 left xs ++ ys) →
        cond d (cond (int_lt (pos 0) left) ((x.0, record x.1 { qty = left }) ∷ (xs ++ ys)) (xs ++ ys)) (x ∷ left_at h.0 left (xs ++ ys))
        ≡ cond d (cond (int_lt (pos 0) left) ((x.0, record x.1 { qty = left }) ∷ xs) xs) (x ∷ left_at h.0 left xs) ++ ys
    go true e again = there (int_lt (pos 0) left)
    go false g again = ap (λ zs. x ∷ zs) (again g)

-- as many orders, or one fewer
pub left_length : (left : ℤ) (h : Arrived) (xs : List Arrived) → Found h xs → int_lt (pos 0) left ≡ false → suc (length (left_at h.0 left xs)) ≡ length xs
left_length left h [] f e = absurd f
left_length left h (x ∷ xs) f e = go (x.0 == h.0) f (λ g. left_length left h xs g e)
  where
    go : (d : Bool) → cond d (x.1 ≡ h.1) (Found h xs) → (Found h xs → suc (length (left_at h.0 left xs)) ≡ length xs) →
        suc (length (cond d (cond (int_lt (pos 0) left) ((x.0, record x.1 { qty = left }) ∷ xs) xs) (x ∷ left_at h.0 left xs))) ≡ suc (length xs)
    go true f again = ap (λ c. suc (length (cond c ((x.0, record x.1 { qty = left }) ∷ xs) xs))) e
    go false f again = ap suc (again f)
