-- No event is handed twice to one subscription.
use Rattle.df_rules.proofs.Names.{◌≡◌, ℕ, ◌<◌, List, [], ◌∷◌, ◌++◌, Bool, true, false, not, ◌&&◌, ◌||◌, refl, sym, ◌∙◌, ap, subst, cond, Option, Some, None, arith, ⊤, ◌==◌, list_any, flat_map, eqb-true, or_from, list_any-append, append-nil, append_assoc, Clause, Label, Privilege, apply, cut, Part, matches, commit_of, contents, was_handed, offer, plain_news, instance_news, deliveries, deliveries_plain, deliveries_instance, own_plain, fixed, is_given, rows, roots, subscriptions, readable_at, same, same_event, OwnState, Fixed, is_nil, Commit, Given, Entry, EventName, UnitName, Root, Managed}
use Rattle.df_rules.proofs.Numbers.{Above, Numbered, AreNumbered, numbered}

below_differs : (n k : ℕ) → n < k → (n == k) ≡ false
below_differs n k lt = go (n == k) refl
  where
    go : (b : Bool) → (n == k) ≡ b → b ≡ false
    go true e = let same : n ≡ k = eqb-true n k e in absurd (let z : ⊥ = omega arith in z)
    go false e = refl

-- deliveries, after those that were made before

abbrev OnceAfter : List Given → List Given → Type 0
OnceAfter seen [] = ⊤
OnceAfter seen (d ∷ ds) = (was_handed seen d.event d.sub ≡ false) × OnceAfter (seen ++ d ∷ []) ds

once_append : (seen xs ys : List Given) → OnceAfter seen xs → OnceAfter (seen ++ xs) ys → OnceAfter seen (xs ++ ys)
once_append seen [] ys h k = subst (λ (zs : List Given). OnceAfter zs ys) (append-nil seen) k
once_append seen (x ∷ xs) ys h k = (h.0, once_append (seen ++ x ∷ []) xs ys h.1 (subst (λ (zs : List Given). OnceAfter zs ys) (sym (append_assoc seen (x ∷ []) xs)) k))

neither_any : {X : Type 0} (f : X → Bool) (xs ys : List X) → list_any f xs ≡ false → list_any f ys ≡ false → list_any f (xs ++ ys) ≡ false
neither_any f xs ys h k = list_any-append f xs ys ∙ or_from (list_any f xs) (list_any f ys) h k

-- nothing was handed to these subscriptions
abbrev Unhanded : List Given → EventName → List (ℕ × List Clause) → Type 0
Unhanded new event [] = ⊤
Unhanded new event (x ∷ xs) = (was_handed new event x.0 ≡ false) × Unhanded new event xs

and_with_false : (a b : Bool) → b ≡ false → ((a && b) || false) ≡ false
and_with_false true true h = h
and_with_false true false h = refl
and_with_false false b h = refl

unhanded_push : (new : List Given) (event : EventName) (n : ℕ) (parts : List Part) (xs : List (ℕ × List Clause)) → Above n xs → Unhanded new event xs → Unhanded (new ++ record { event = event; sub = n; parts = parts } ∷ []) event xs
unhanded_push new event n parts [] d h = tt
unhanded_push new event n parts (x ∷ xs) d h = (
  neither_any (λ (g : Given). same_event g.event event && (g.sub == x.0)) new (record { event = event; sub = n; parts = parts } ∷ []) h.0 (and_with_false (same_event event event) (n == x.0) (below_differs n x.0 d.0)),
  unhanded_push new event n parts xs d.1 h.1,
)

unhanded_none : (event : EventName) (xs : List (ℕ × List Clause)) → Unhanded [] event xs
unhanded_none event [] = tt
unhanded_none event (x ∷ xs) = (refl, unhanded_none event xs)

offers_once : (ds new : List Given) (event : EventName) (parts : List Part) (k : ℕ) (xs : List (ℕ × List Clause)) → Numbered k xs → Unhanded new event xs → OnceAfter (ds ++ new) (flat_map (λ sub. offer ds event parts sub) xs)
offers_once ds new event parts k [] numbered h = tt
offers_once ds new event parts k (x ∷ xs) numbered h = go (matches x.1 parts) (was_handed ds event x.0) refl (offers_once ds new event parts k xs numbered.2 h.1) (offers_once ds (new ++ d ∷ []) event parts k xs numbered.2 (unhanded_push new event x.0 parts xs numbered.1 h.1))
  where
    d : Given
    d = record { event = event; sub = x.0; parts = parts }

    go : (m w : Bool) → was_handed ds event x.0 ≡ w → OnceAfter (ds ++ new) (flat_map (λ sub. offer ds event parts sub) xs) → OnceAfter (ds ++ (new ++ record { event = event; sub = x.0; parts = parts } ∷ [])) (flat_map (λ sub. offer ds event parts sub) xs) →
        OnceAfter (ds ++ new) (cond (m && not w) (record { event = event; sub = x.0; parts = parts } ∷ []) [] ++ flat_map (λ sub. offer ds event parts sub) xs)
    go false w e skip taken = skip
    go true true e skip taken = skip
    go true false e skip taken = (
      neither_any (λ (g : Given). same_event g.event event && (g.sub == x.0)) ds new e h.0,
      subst (λ (zs : List Given). OnceAfter zs (flat_map (λ sub. offer ds event parts sub) xs)) (sym (append_assoc ds new (record { event = event; sub = x.0; parts = parts } ∷ []))) taken,
    )

plain_once : (o : Option OwnState) (subs : List (ℕ × List Clause)) → AreNumbered o subs → (ds : List Given) (past : List Entry) (oc : Option Commit) → OnceAfter ds (plain_news o subs ds past oc)
plain_once None subs numbered ds past oc = tt
plain_once (Some st) subs numbered ds past None = tt
plain_once (Some st) subs numbered ds past (Some c) = go (is_nil (cut st.input c.edit.1))
  where
    go : (b : Bool) → OnceAfter ds (cond b [] (flat_map (λ sub. offer ds c.event (cut st.input (apply c.edit (contents past c.event))) sub) subs))
    go true = tt
    go false = subst (λ (zs : List Given). OnceAfter zs (flat_map (λ sub. offer ds c.event (cut st.input (apply c.edit (contents past c.event))) sub) subs)) (append-nil ds)
        (offers_once ds [] c.event (cut st.input (apply c.edit (contents past c.event))) st.subs subs numbered (unhanded_none c.event subs))

instance_once : (fx : Option Fixed) (n : ℕ) (t : List (List ℕ)) (ds : List Given) (past : List Entry) (oc : Option Commit) → OnceAfter ds (instance_news fx n t ds past oc)
instance_once None n t ds past oc = tt
instance_once (Some f) n t ds past None = tt
instance_once (Some f) n t ds past (Some c) = go (is_given (Some f) t past (Some c)) (was_handed ds c.event n) refl
  where
    go : (g w : Bool) → was_handed ds c.event n ≡ w → OnceAfter ds (cond (g && not w) (record { event = c.event; sub = n; parts = cut (readable_at f t) (apply c.edit (contents past c.event)) } ∷ []) [])
    go false w e = tt
    go true true e = tt
    go true false e = (e, tt)

module _ (start : List (Label × List Privilege)) where
  deliveries_once : (past : List Entry) (u : UnitName) → OnceAfter [] (deliveries rows (roots start) past u)
  deliveries_once [] (Root path) = tt
  deliveries_once [] (Managed o n t) = tt
  deliveries_once (e ∷ past) (Root path) =
      once_append [] (deliveries_plain rows (roots start) past path) (plain_news (own_plain rows (roots start) past path) (subscriptions rows (roots start) past (Root path)) (deliveries_plain rows (roots start) past path) past (commit_of e)) (deliveries_once past (Root path))
      (plain_once (own_plain rows (roots start) past path) (subscriptions rows (roots start) past (Root path)) (numbered (roots start) past (Root path)) (deliveries_plain rows (roots start) past path) past (commit_of e))
  deliveries_once (e ∷ past) (Managed o n t) =
      once_append [] (deliveries_instance rows (roots start) past o n t) (instance_news (fixed rows (roots start) past o n) n t (deliveries_instance rows (roots start) past o n t) past (commit_of e)) (deliveries_once past (Managed o n t))
      (instance_once (fixed rows (roots start) past o n) n t (deliveries_instance rows (roots start) past o n t) past (commit_of e))

  at_each : (seen ds before later : List Given) (d : Given) → OnceAfter seen ds → ds ≡ before ++ d ∷ later → was_handed (seen ++ before) d.event d.sub ≡ false
  at_each seen [] [] later d once same = absurd (let z : ⊥ = cc in z)
  at_each seen [] (b ∷ before) later d once same = absurd (let z : ⊥ = cc in z)
  at_each seen (x ∷ ds) [] later d once same =
      let who : x ≡ d = (let y = same in cc) in
      subst (λ (zs : List Given). was_handed zs d.event d.sub ≡ false) (sym (append-nil seen)) (subst (λ (g : Given). was_handed seen g.event g.sub ≡ false) who once.0)
  at_each seen (x ∷ ds) (b ∷ before) later d once same =
      let who : x ≡ b = (let y = same in cc) in
      let rest : ds ≡ before ++ d ∷ later = (let y = same in cc) in
      subst (λ (zs : List Given). was_handed zs d.event d.sub ≡ false) (append_assoc seen (x ∷ []) before ∙ ap (λ (g : Given). seen ++ g ∷ before) who)
      (at_each (seen ++ x ∷ []) ds before later d once.1 rest)

  pub deliveries_come_once : (past : List Entry) (u : UnitName) (before later : List Given) (d : Given) → deliveries rows (roots start) past u ≡ before ++ d ∷ later → was_handed before d.event d.sub ≡ false
  deliveries_come_once past u before later d same = at_each [] (deliveries rows (roots start) past u) before later d (deliveries_once past u) same
