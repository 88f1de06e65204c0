-- The trades of an order and what rests after it are together at most one more than rested before.
use Rattle.df_settling.proofs.Names.{◌≡◌, ◌⊎◌, inl, inr, ℕ, zero, suc, ◌+◌, ◌≤◌, List, [], ◌∷◌, ◌++◌, Bool, true, false, ◌∙◌, ap, cond, Option, Some, None, length, length-append, arith, fold, ℤ, pos, ◌-ℤ◌, int_lt, Picked, Submitted, behind_one, best, better_of, if_left, is_better, lesser, matched, meets, met, rested, resting_after, submitted, Order, trade_count}
use Rattle.df_book.proofs.Planned.{none_left, unmatched}

-- an order that is picked is one of the book
abbrev Picks : List Order → Option Picked → Type 0
Picks book None = Unit {0}
Picks book (Some p) = length book ≡ suc (length p.ahead + length p.behind)

behind_picks : (x : Order) (xs : List Order) (o : Option Picked) → Picks xs o → Picks (x ∷ xs) (behind_one x o)
behind_picks x xs None h = tt
behind_picks x xs (Some p) h = omega arith

better_picks : (o x : Order) (xs : List Order) (p : Option Picked) → Picks xs p → Picks (x ∷ xs) (better_of o x xs p)
better_picks o x xs None h = omega arith
better_picks o x xs (Some p) h = go (is_better o p.order x)
  where
    go : (b : Bool) → Picks (x ∷ xs) (cond b (behind_one x (Some p)) (Some (record { ahead = []; order = x; behind = xs })))
    go true = behind_picks x xs (Some p) h
    go false = omega arith

best_picks : (o : Order) (book : List Order) → Picks book (best o book)
best_picks o [] = tt
best_picks o (x ∷ xs) = go (meets o x) (best_picks o xs)
  where
    go : (b : Bool) → Picks xs (best o xs) → Picks (x ∷ xs) (cond b (better_of o x xs (best o xs)) (behind_one x (best o xs)))
    go true h = better_picks o x xs (best o xs) h
    go false h = behind_picks x xs (best o xs) h

-- how many trades there are and orders rest
abbrev in_all : Submitted → ℕ
in_all s = length s.trades + length s.resting

left_most : (left : ℤ) (r : Order) (behind : List Order) → length (if_left left r behind) ≤ suc (length behind)
left_most left r behind = go (int_lt (pos 0) left)
  where
    go : (b : Bool) → length (cond b (record r { qty = left } ∷ behind) behind) ≤ suc (length behind)
    go true = omega arith
    go false = omega arith

rested_most : (o : Order) (left : ℤ) (book : List Order) → in_all (rested o left book) ≤ suc (length book)
rested_most o left book =
    let a = left_most left o [] in
    let e = length-append book (if_left left o []) in
    omega arith

rested_none : (o : Order) (left : ℤ) (book : List Order) → int_lt (pos 0) left ≡ false → in_all (rested o left book) ≡ length book
rested_none o left book h =
    let a : length (if_left left o []) ≡ 0 = ap (λ (b : Bool). length (cond b (record o { qty = left } ∷ []) [])) h in
    let e = length-append book (if_left left o []) in
    omega arith

-- nothing is left of one of the two
used_up : (left qty : ℤ) → (int_lt (pos 0) (left -ℤ lesser left qty) ≡ false) ⊎ (int_lt (pos 0) (qty -ℤ lesser left qty) ≡ false)
used_up left qty = go (int_lt left qty)
  where
    go : (b : Bool) → (int_lt (pos 0) (left -ℤ cond b left qty) ≡ false) ⊎ (int_lt (pos 0) (qty -ℤ cond b left qty) ≡ false)
    go true = inl (ap (int_lt (pos 0)) (none_left left))
    go false = inr (ap (int_lt (pos 0)) (none_left qty))

-- what is behind an order that is used up
gone : (left : ℤ) (r : Order) (behind : List Order) → int_lt (pos 0) left ≡ false → length (if_left left r behind) ≡ length behind
gone left r behind h = ap (λ (b : Bool). length (cond b (record r { qty = left } ∷ behind) behind)) h

matched_most : (o : Order) (n : ℕ) (left : ℤ) (book : List Order) → in_all (matched o n left book) ≤ suc (length book)
matched_most o zero left book = rested_most o left book
matched_most o (suc n) left book = go (int_lt (pos 0) left) (best o book) (best_picks o book) (matched_most o n)
  where
    one : (p : Picked) → length book ≡ suc (length p.ahead + length p.behind) → ((l : ℤ) (b : List Order) → in_all (matched o n l b) ≤ suc (length b)) →
        in_all (met (matched o n) o left book (Some p)) ≤ suc (length book)
    one p h again =
        let l = left -ℤ lesser left p.order.qty in
        let q = p.order.qty -ℤ lesser left p.order.qty in
        let b = p.ahead ++ if_left q p.order p.behind in
        let e = length-append p.ahead (if_left q p.order p.behind) in
        elim (used_up left p.order.qty) [
          | inl u ↦ let k = ap in_all (unmatched o n l b u) ∙ rested_none o l b u in let m = left_most q p.order p.behind in omega arith
          | inr u ↦ let k = again l b in let m = gone q p.order p.behind u in omega arith
        ]

    go : (b : Bool) (p : Option Picked) → Picks book p → ((l : ℤ) (b : List Order) → in_all (matched o n l b) ≤ suc (length b)) →
        in_all (cond b (met (matched o n) o left book p) (rested o left book)) ≤ suc (length book)
    go true None h again = rested_most o left book
    go true (Some p) h again = one p h again
    go false p h again = rested_most o left book

-- each trade uses an order up
pub balanced : (o : Order) (book : List Order) → length (submitted o book).trades + length (submitted o book).resting ≤ suc (length book)
balanced o book = matched_most o (length book) o.qty book

used_up_from : (book os : List Order) → trade_count book os + length (fold (λ (book : List Order) o. (submitted o book).resting) book os)
    ≤ length book + length os
used_up_from book [] = omega arith
used_up_from book (o ∷ os) = let a = balanced o book in let b = used_up_from (submitted o book).resting os in omega arith

pub all_used_up : (os : List Order) → trade_count [] os + length (resting_after os) ≤ length os
all_used_up os = let e = used_up_from [] os in omega arith
