-- The receivers at a unit's place are those to which the definitions hand the event.
use Rattle.df_tables.proofs.Names.{◌≡◌, ◌↔◌, ℕ, suc, ◌<◌, Bool, true, false, not, ◌&&◌, ◌||◌, if◌then◌else◌, List, [], ◌∷◌, ◌++◌, map, length, get_or, slice_get, Option, Some, refl, ap, sym, subst, ◌∙◌, arith, eq-eqb, nat_cmp_is, nat_cmp_total, unsigned_ties, AllByRecursion, AllPairs, Contains, filter, flat_map, list_any, is_eq, nat_cmp, ordering_then, Ordering, Less, Equal, Greater, and_from, and_parts, eqb-true, Any-from_list_any, list_any_at, Clause, IsDue, Pair, adds_readable, has_pair, is_due, is_due_at, pair_cmp, Subscription, IsAscending, IsBelow, contains_by, Label, cut, readable, Spot, Part, matches, offer, was_handed, ComesBefore, is_nil, Given, EventName, subscriptions_at, given_to, news_at, pairs_of}
use Rattle.std.specs.Prelude.{◌==◌}
use Rattle.std.specs.List.Sorted.{IsStrictlySortedBy}
use Rattle.df_label.proofs.SetFacts.{IsExactOrder, same_elements}
use Rattle.df_tables.proofs.Brought.{none_pass}
use Rattle.df_tables.proofs.Seats.{both_ways}

abbrev Sub : Type 0
Sub = ℕ × List Clause

-- numbers that are chosen from a list

contains_chosen : {X : Type 0} (f : X → ℕ) (u : X → Bool) (xs : List X) (n : ℕ) → contains_by nat_cmp (map f (filter u xs)) n ≡ list_any (λ x. u x && (f x == n)) xs
contains_chosen f u [] n = refl
contains_chosen f u (x ∷ xs) n =
    let ys = filter u xs in
    let ih = contains_chosen f u xs n in
    elim (u x) as (λ b. contains_by nat_cmp (map f (if b then x ∷ ys else ys)) n ≡ ((b && (f x == n)) || list_any (λ x. u x && (f x == n)) xs)) [
      | true ↦ ap (λ (c : Bool). c || contains_by nat_cmp (map f ys) n) (sym (unsigned_ties (f x) n)) ∙ ap (λ (c : Bool). (f x == n) || c) ih
      | false ↦ ih
    ]

then_less : (o more : Ordering) → is_eq o ≡ true → ordering_then o more ≡ Less → more ≡ Less
then_less Less more e h = absurd (let z : ⊥ = cc in z)
then_less Equal more e h = h
then_less Greater more e h = absurd (let z : ⊥ = cc in z)

-- pairs that ascend do so at each place
ascending_pairs : (k : ℕ) (ps : List Pair) → IsStrictlySortedBy pair_cmp ps → IsAscending nat_cmp (map (λ p. p.1) (pairs_of k ps))
unfolding IsStrictlySortedBy
ascending_pairs k [] h = tt
ascending_pairs k (p ∷ ps) h = by (p.0 == k) refl (ascending_pairs k ps h.1)
  where
    below : p.0 ≡ k → (qs : List Pair) → AllByRecursion (λ q. pair_cmp p q ≡ Less) qs → IsBelow nat_cmp p.1 (map (λ q. q.1) (pairs_of k qs))
    below e [] h = tt
    below e (q ∷ qs) h = one (q.0 == k) refl (below e qs h.1)
      where
        one : (b : Bool) → (q.0 == k) ≡ b → IsBelow nat_cmp p.1 (map (λ q. q.1) (pairs_of k qs)) → IsBelow nat_cmp p.1 (map (λ q. q.1) (if b then q ∷ pairs_of k qs else pairs_of k qs))
        one true f rest =
            let level : p.0 ≡ q.0 = e ∙ sym (eqb-true q.0 k f) in
            (then_less (nat_cmp p.0 q.0) (nat_cmp p.1 q.1) (sym (unsigned_ties p.0 q.0) ∙ eq-eqb p.0 q.0 level) h.0, rest)
        one false f rest = rest

    by : (b : Bool) → (p.0 == k) ≡ b → IsAscending nat_cmp (map (λ p. p.1) (pairs_of k ps)) → IsAscending nat_cmp (map (λ p. p.1) (if b then p ∷ pairs_of k ps else pairs_of k ps))
    by true e rest = (below (eqb-true p.0 k e) ps h.0, rest)
    by false e rest = rest

below_subs : (u : Sub → Bool) (m : ℕ) (xs : List Sub) → ((j : ℕ) (d : Sub) → j < length xs → m < (get_or xs j d).0) → IsBelow nat_cmp m (map (λ s. s.0) (filter u xs))
below_subs u m [] h = tt
below_subs u m (x ∷ xs) h = by (u x) (below_subs u m xs (λ j d i. h (suc j) d (omega arith)))
  where
    by : (b : Bool) → IsBelow nat_cmp m (map (λ s. s.0) (filter u xs)) → IsBelow nat_cmp m (map (λ s. s.0) (if b then x ∷ filter u xs else filter u xs))
    by true rest = (sym (nat_cmp_is m x.0 Less (h 0 x (omega arith))), rest)
    by false rest = rest

-- a unit's subscriptions ascend by number, however they are chosen
ascending_subs : (u : Sub → Bool) (xs : List Sub) → AllPairs ComesBefore xs → IsAscending nat_cmp (map (λ s. s.0) (filter u xs))
ascending_subs u [] h = tt
ascending_subs u (x ∷ xs) h = by (u x) (ascending_subs u xs (λ i j d lt within. h (suc i) (suc j) d (omega arith) (omega arith)))
  where
    by : (b : Bool) → IsAscending nat_cmp (map (λ s. s.0) (filter u xs)) → IsAscending nat_cmp (map (λ s. s.0) (if b then x ∷ filter u xs else filter u xs))
    by true rest = (below_subs u x.0 xs (λ j d i. h 0 (suc j) d (omega arith) (omega arith)), rest)
    by false rest = rest

nat_exact : IsExactOrder nat_cmp
nat_exact = record { total = nat_cmp_total; exact = λ x y e. eqb-true x y (unsigned_ties x y ∙ ap is_eq e) }

-- pairs and tests

pair_there : (ps : List Pair) (p : Pair) → Contains ps p → has_pair ps p ≡ true
pair_there ps p c = list_any_at (λ (q : Pair). (q.0 == p.0) && (q.1 == p.1)) ps c.0 p c.1 (subst (λ (q : Pair). ((q.0 == p.0) && (q.1 == p.1)) ≡ true) (sym c.2) (and_from (p.0 == p.0) (p.1 == p.1) (eq-eqb p.0 p.0 refl) (eq-eqb p.1 p.1 refl)))

pair_found : (ps : List Pair) (p : Pair) → has_pair ps p ≡ true → Contains ps p
pair_found ps (k, n) h =
    let a = Any-from_list_any (λ (q : Pair). (q.0 == k) && (q.1 == n)) ps h in
    let both = and_parts (a.1.0 == k) (a.1.1 == n) a.4 in
    let x = eqb-true a.1.0 k both.0 in
    let y = eqb-true a.1.1 n both.1 in
    let same : a.1 ≡ (let p : Pair = (k, n) in p) = ap (λ (z : ℕ). let p : Pair = (z, a.1.1) in p) x ∙ ap (λ (z : ℕ). let p : Pair = (k, z) in p) y in
    subst (Contains ps) same (a.0, a.2, a.3)

any_subscribed : (k : ℕ) (t : Sub → Bool) (enrolled : List (Subscription (List Clause))) → list_any t (subscriptions_at k enrolled) ≡ list_any (λ s. (s.unit == k) && t (s.sub, s.filter)) enrolled
any_subscribed k t [] = refl
any_subscribed k t (s ∷ ss) = by (s.unit == k) (any_subscribed k t ss)
  where
    by : (b : Bool) → list_any t (subscriptions_at k ss) ≡ list_any (λ s. (s.unit == k) && t (s.sub, s.filter)) ss → list_any t (if b then (s.sub, s.filter) ∷ subscriptions_at k ss else subscriptions_at k ss) ≡ ((b && t (s.sub, s.filter)) || list_any (λ s. (s.unit == k) && t (s.sub, s.filter)) ss)
    by true ih = ap (λ (c : Bool). t (s.sub, s.filter) || c) ih
    by false ih = ih

module _ (at : Label) (ds : List Given) (ev : EventName) (contents : List Part) (edit : List Spot × List Part) where
  -- whether the event is to be handed to the subscription
  abbrev passes : Sub → Bool
  passes s = adds_readable at edit && (matches s.1 (cut at contents) && not (was_handed ds ev s.0))

  abbrev given_by : ℕ → Given
  given_by n = record { event = ev; sub = n; parts = cut at contents }

  abbrev offered : Sub → Bool
  offered s = matches s.1 (cut at contents) && not (was_handed ds ev s.0)

  offers_are : (subs : List Sub) → flat_map (λ sub. offer ds ev (cut at contents) sub) subs ≡ map given_by (map (λ s. s.0) (filter offered subs))
  offers_are [] = refl
  offers_are (s ∷ ss) = by (offered s) (offers_are ss)
    where
      by : (b : Bool) → flat_map (λ sub. offer ds ev (cut at contents) sub) ss ≡ map given_by (map (λ s. s.0) (filter offered ss)) → (if b then given_by s.0 ∷ [] else []) ++ flat_map (λ sub. offer ds ev (cut at contents) sub) ss ≡ map given_by (map (λ s. s.0) (if b then s ∷ filter offered ss else filter offered ss))
      by true ih = ap (λ (l : List Given). given_by s.0 ∷ l) ih
      by false ih = ih

  none_offered : (subs : List Sub) → map given_by (map (λ s. s.0) (filter (λ s. false && offered s) subs)) ≡ []
  none_offered [] = refl
  none_offered (s ∷ ss) = none_offered ss

  -- what the definitions hand is handed to the subscriptions that pass
  news_are : (subs : List Sub) → (if is_nil (cut at edit.1) then [] else flat_map (λ sub. offer ds ev (cut at contents) sub) subs) ≡ map given_by (map (λ s. s.0) (filter passes subs))
  news_are subs = subst (λ (c : Bool). (if c then [] else flat_map (λ sub. offer ds ev (cut at contents) sub) subs) ≡ map given_by (map (λ s. s.0) (filter passes subs))) (none_pass (readable at) edit.1) (by (adds_readable at edit))
    where
      by : (b : Bool) → (if not b then [] else flat_map (λ sub. offer ds ev (cut at contents) sub) subs) ≡ map given_by (map (λ s. s.0) (filter (λ s. b && offered s) subs))
      by true = offers_are subs
      by false = sym (none_offered subs)

  pairs_given : (k : ℕ) (ps : List Pair) → news_at ev contents at ps k ≡ map given_by (map (λ p. p.1) (pairs_of k ps))
  pairs_given k ps = go (pairs_of k ps)
    where
      go : (qs : List Pair) → map (given_to ev contents at) qs ≡ map given_by (map (λ p. p.1) qs)
      go [] = refl
      go (q ∷ qs) = ap (λ (l : List Given). given_by q.1 ∷ l) (go qs)

  module _ (k : ℕ) (enrolled : List (Subscription (List Clause))) (handed : List Pair) (labels : List Label) (ps : List Pair) (label : slice_get labels k ≡ Some at) (marks : (n : ℕ) → has_pair handed (k, n) ≡ was_handed ds ev n)
      (due : (p : Pair) → Contains ps p ↔ IsDue matches labels handed contents edit enrolled p) where
    due_is : (s : Subscription (List Clause)) → s.unit ≡ k → is_due matches labels handed contents edit s ≡ passes (s.sub, s.filter)
    due_is s e =
        ap (λ (o : Option Label). is_due_at matches handed contents edit o s) (ap (slice_get labels) e ∙ label)
        ∙ ap (λ (b : Bool). adds_readable at edit && (matches s.filter (cut at contents) && not b)) (ap (λ (u : ℕ). has_pair handed (u, s.sub)) e ∙ marks s.sub)

    abbrev chosen : ℕ → Subscription (List Clause) → Bool
    chosen n s = (s.unit == k) && (passes (s.sub, s.filter) && (s.sub == n))

    members : (n : ℕ) → has_pair ps (k, n) ≡ list_any (chosen n) enrolled
    members n = both_ways (has_pair ps (k, n)) (list_any (chosen n) enrolled) forth back
      where
        forth : has_pair ps (k, n) ≡ true → list_any (chosen n) enrolled ≡ true
        forth h =
            let d = (due (k, n)).0 (pair_found ps (k, n) h) in
            let s = d.subscription in
            let e : s.unit ≡ k = ap (λ (p : Pair). p.0) d.pair in
            let f : s.sub ≡ n = ap (λ (p : Pair). p.1) d.pair in
            list_any_at (chosen n) enrolled d.enrolled.0 s d.enrolled.1 (subst (λ (x : Subscription (List Clause)). chosen n x ≡ true) (sym d.enrolled.2)
            (and_from (s.unit == k) (passes (s.sub, s.filter) && (s.sub == n)) (eq-eqb s.unit k e) (and_from (passes (s.sub, s.filter)) (s.sub == n) (sym (due_is s e) ∙ d.due) (eq-eqb s.sub n f))))

        back : list_any (chosen n) enrolled ≡ true → has_pair ps (k, n) ≡ true
        back h =
            let a = Any-from_list_any (chosen n) enrolled h in
            let s = a.1 in
            let one = and_parts (s.unit == k) (passes (s.sub, s.filter) && (s.sub == n)) a.4 in
            let two = and_parts (passes (s.sub, s.filter)) (s.sub == n) one.1 in
            let e = eqb-true s.unit k one.0 in
            let f = eqb-true s.sub n two.1 in
            let pair : (let p : Pair = (s.unit, s.sub) in p) ≡ (k, n) = ap (λ (z : ℕ). let p : Pair = (z, s.sub) in p) e ∙ ap (λ (z : ℕ). let p : Pair = (k, z) in p) f in
            pair_there ps (k, n) ((due (k, n)).1 (record { subscription = s; enrolled = (a.0, a.2, a.3); pair = pair; due = due_is s e ∙ two.0 }))

    -- the two ways to hand the event agree
    pub news_is : (subs : List Sub) → subscriptions_at k enrolled ≡ subs → AllPairs ComesBefore subs → IsStrictlySortedBy pair_cmp ps →
        (if is_nil (cut at edit.1) then [] else flat_map (λ sub. offer ds ev (cut at contents) sub) subs) ≡ news_at ev contents at ps k
    news_is subs same numbered sorted =
        news_are subs
        ∙ ap (map given_by) (same_elements nat_cmp nat_exact (map (λ s. s.0) (filter passes subs)) (map (λ p. p.1) (pairs_of k ps)) (ascending_subs passes subs numbered) (ascending_pairs k ps sorted)
        (λ n. contains_chosen (λ (s : Sub). s.0) passes subs n
        ∙ ap (list_any (λ (s : Sub). passes s && (s.0 == n))) (sym same)
        ∙ any_subscribed k (λ (s : Sub). passes s && (s.0 == n)) enrolled
        ∙ sym (members n)
        ∙ sym (contains_chosen (λ (p : Pair). p.1) (λ (p : Pair). p.0 == k) ps n)))
        ∙ sym (pairs_given k ps)
