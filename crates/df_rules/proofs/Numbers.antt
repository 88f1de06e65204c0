-- A unit's ordinary subscriptions have ascending numbers, below the count of all that it made.
use Rattle.df_rules.proofs.Names.{◌≡◌, ℕ, zero, suc, ◌+◌, ◌≤◌, ◌<◌, List, [], ◌∷◌, ◌++◌, Bool, true, false, refl, sym, subst, cond, Option, Some, None, All, arith, ⊤, ◌==◌, option_to_list, AllPairs, option_map, option_and_then, option_or, eqb-true, append-nil, Clause, maker_of, commit_of, stepped, made_by, own_plain, own_instance, own, fixed, born, rows, ComesBefore, subscribed_by, subscriptions, same, OwnState, after, subscribes, Call, Subscribe, Effect, Entry, Done, Emitted, UnitName, Root, Managed, Reply}
use Rattle.std.proofs.lemmas.List.Kept.{AllPairs-cons}
use Rattle.df_rules.proofs.Growth.{grown_after}

-- each number is above n
abbrev pub Above : ℕ → List (ℕ × List Clause) → Type 0
Above n [] = ⊤
Above n (x ∷ xs) = (n < x.0) × Above n xs

-- the numbers ascend, and each is below k
abbrev pub Numbered : ℕ → List (ℕ × List Clause) → Type 0
Numbered k [] = ⊤
Numbered k (x ∷ xs) = (x.0 < k) × Above x.0 xs × Numbered k xs

above_push : (n k : ℕ) (filter : List Clause) (xs : List (ℕ × List Clause)) → n < k → Above n xs → Above n (xs ++ (k, filter) ∷ [])
above_push n k filter [] lt h = (lt, tt)
above_push n k filter (x ∷ xs) lt h = (h.0, above_push n k filter xs lt h.1)

numbered_push : (k : ℕ) (filter : List Clause) (xs : List (ℕ × List Clause)) → Numbered k xs → Numbered (k + 1) (xs ++ (k, filter) ∷ [])
numbered_push k filter [] h = (omega arith, tt, tt)
numbered_push k filter (x ∷ xs) h = ((let lt = h.0 in omega arith), above_push x.0 k filter xs h.0 h.1, numbered_push k filter xs h.2)

-- a unit's subscriptions have numbers below its next, and who isn't there has none
abbrev pub AreNumbered : Option OwnState → List (ℕ × List Clause) → Type 0
AreNumbered None subs = subs ≡ []
AreNumbered (Some st) subs = Numbered st.subs subs

-- where nothing is subscribed
numbered_same : (k m : ℕ) (subs : List (ℕ × List Clause)) → k ≤ m → Numbered k subs → Numbered m (subs ++ [])
numbered_same k m [] grown h = tt
numbered_same k m (x ∷ xs) grown h = ((let lt = h.0 in omega arith), subst (λ (zs : List (ℕ × List Clause)). Above x.0 zs) (sym (append-nil xs)) h.1, numbered_same k m xs grown h.2)

-- an entry of a unit that is there
numbered_done : (u : UnitName) (st : OwnState) (c : Call) (r : Reply) (f : Effect) (subs : List (ℕ × List Clause)) → st.subs ≤ (after u st c r f).subs → Numbered st.subs subs → Numbered (after u st c r f).subs (subs ++ option_to_list (subscribes st c r))
numbered_done u st (Subscribe filter) (Reply.Sub n) f subs grown h = go (n == st.subs) refl
  where
    go : (b : Bool) → (n == st.subs) ≡ b → Numbered (st.subs + 1) (subs ++ option_to_list (cond b (Some (n, filter)) None))
    go true e = rw (eqb-true n st.subs e) (numbered_push st.subs filter subs h)
    go false e = numbered_same st.subs (st.subs + 1) subs grown h
numbered_done u st (Subscribe filter) r f subs grown h = numbered_same st.subs _ subs grown h
numbered_done u st _ r f subs grown h = numbered_same st.subs _ subs grown h

-- an entry that isn't the unit's
numbered_or : (o y : Option OwnState) (subs : List (ℕ × List Clause)) → AreNumbered o subs → AreNumbered (option_or o y) (subs ++ [])
numbered_or None None subs h = rw h refl
numbered_or None (Some st) subs h = rw h tt
numbered_or (Some st) y subs h = numbered_same st.subs st.subs subs (let z : st.subs ≤ st.subs = omega arith in z) h

-- one more entry, whatever the unit is
numbered_step : (u : UnitName) (e : Entry) (o y : Option OwnState) (subs : List (ℕ × List Clause)) → AreNumbered o subs → AreNumbered (option_or (stepped rows u e o) y) (subs ++ option_to_list (subscribed_by rows e u o))
numbered_step u (Emitted c) o y subs h = numbered_or o y subs h
numbered_step u (Done a c r f) o y subs h = go (same a u) o h
  where
    go : (b : Bool) (o : Option OwnState) → AreNumbered o subs →
        AreNumbered (option_or (cond b (option_map (λ st. after u st c r f) o) o) y) (subs ++ option_to_list (cond b (option_and_then (λ st. subscribes st c r) o) None))
    go true None h = numbered_or None y subs h
    go true (Some st) h = numbered_done u st c r f subs (grown_after u st c r f).subs h
    go false o h = numbered_or o y subs h

numbered_first : (o : Option OwnState) → AreNumbered o []
numbered_first None = refl
numbered_first (Some st) = tt

module _ (s : List OwnState) where
  pub numbered : (past : List Entry) (u : UnitName) → AreNumbered (own rows s past u) (subscriptions rows s past u)
  numbered [] u = numbered_first (own rows s [] u)
  numbered (e ∷ past) (Root path) =
      numbered_step (Root path) e (own_plain rows s past path) (made_by rows e path (own_plain rows s past (maker_of path))) (subscriptions rows s past (Root path)) (numbered past (Root path))
  numbered (e ∷ past) (Managed o n t) =
      numbered_step (Managed o n t) e (own_instance rows s past o n t) (born rows (fixed rows s past o n) t past (commit_of e)) (subscriptions rows s past (Managed o n t)) (numbered past (Managed o n t))

  pub numbers_ascend : (past : List Entry) (u : UnitName) → AllPairs ComesBefore (subscriptions rows s past u)
  numbers_ascend past u = go (own rows s past u) (subscriptions rows s past u) (numbered past u)
    where
      above_all : (x : ℕ × List Clause) (xs : List (ℕ × List Clause)) → Above x.0 xs → All (ComesBefore x) xs
      above_all x [] h k d within = absurd (omega arith)
      above_all x (y ∷ ys) h zero d within = h.0
      above_all x (y ∷ ys) h (suc k) d within = above_all x ys h.1 k d (omega arith)

      ascend : (k : ℕ) (xs : List (ℕ × List Clause)) → Numbered k xs → AllPairs ComesBefore xs
      ascend k [] h = λ i j d lt within. absurd (omega arith)
      ascend k (x ∷ xs) h = AllPairs-cons ComesBefore x xs (above_all x xs h.1) (ascend k xs h.2)

      go : (o : Option OwnState) (xs : List (ℕ × List Clause)) → AreNumbered o xs → AllPairs ComesBefore xs
      go None xs h = subst (AllPairs ComesBefore) (sym h) (ascend 0 [] tt)
      go (Some st) xs h = ascend st.subs xs h

  pub numbers_counted : (past : List Entry) (u : UnitName) (st : OwnState) → own rows s past u ≡ Some st → All (λ (sub : ℕ × List Clause). sub.0 < st.subs) (subscriptions rows s past u)
  numbers_counted past u st h = below (subscriptions rows s past u) (rw h at (numbered past u))
    where
      below : (xs : List (ℕ × List Clause)) → Numbered st.subs xs → All (λ (sub : ℕ × List Clause). sub.0 < st.subs) xs
      below [] h k d within = absurd (omega arith)
      below (x ∷ xs) h zero d within = h.0
      below (x ∷ xs) h (suc k) d within = below xs h.2 k d (omega arith)
