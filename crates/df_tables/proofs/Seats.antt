-- Where units and events stand in the tables, and what stands there.
use Rattle.df_tables.proofs.Names.{◌≡◌, ℕ, suc, ◌==◌, ◌&&◌, ◌||◌, Bool, true, false, if◌then◌else◌, List, [], ◌∷◌, ◌++◌, get_or, map, Option, Some, None, option_map, refl, ap, sym, subst, ◌∙◌, eqb-true, Clause, Pair, has_pair, Subscription, Label, Part, deliveries, was_handed, own, Rules, same, same_event, OwnState, Entry, EventName, UnitName, same_name-exact, same_event_decides, IsSeat, enrols, subscriptions_at, event_place, place_by, given_to, news_at, pairs_of, find, names_of, place_of, EventRow, Unit, false_from_ne_true, eq-eqb, and-false}
use Rattle.df_tables.proofs.Places.{at_none, at_some}

-- what stands at the place passes the test
pub passes_at : {A : Type 0} (p : A → Bool) (xs : List A) (k : ℕ) (d : A) → place_by p xs ≡ Some k → p (get_or xs k d) ≡ true
passes_at p [] k d h = absurd (cc)
passes_at p (x ∷ xs) k d h = by (p x) refl (place_by p xs) (λ j g. passes_at p xs j d g) h
  where
    by : (b : Bool) → p x ≡ b → (o : Option ℕ) → ((j : ℕ) → o ≡ Some j → p (get_or xs j d) ≡ true) → (if b then Some 0 else option_map suc o) ≡ Some k → p (get_or (x ∷ xs) k d) ≡ true
    by true e o ih h = let z : 0 ≡ k = cc in subst (λ (i : ℕ). p (get_or (x ∷ xs) i d) ≡ true) z e
    by false e None ih h = absurd (cc)
    by false e (Some j) ih h = let z : suc j ≡ k = cc in subst (λ (i : ℕ). p (get_or (x ∷ xs) i d) ≡ true) z (ih j refl)

-- places hang on names alone
pub place_of-names : (n : UnitName) (us us' : List Unit) → names_of us' ≡ names_of us → place_of n us' ≡ place_of n us
place_of-names n us us' e = by_names us' ∙ ap (place_by (λ (m : UnitName). same m n)) e ∙ sym (by_names us)
  where
    by_names : (vs : List Unit) → place_of n vs ≡ place_by (λ (m : UnitName). same m n) (names_of vs)
    by_names [] = refl
    by_names (v ∷ vs) = ap (λ (o : Option ℕ). if same v.local.unit n then Some 0 else option_map suc o) (by_names vs)

-- two units have two places
pub apart : (us : List Unit) (a n : UnitName) (j k : ℕ) → place_of a us ≡ Some j → place_of n us ≡ Some k → same a n ≡ false → (j == k) ≡ false
apart [] a n j k e h g = absurd (cc)
apart (u ∷ us) a n j k e h g = false_from_ne_true (j == k) differ
  where
    differ : (j == k) ≡ true → ⊥
    differ f =
        let one = same_name-exact (get_or (u ∷ us) k u).local.unit a (subst (λ (i : ℕ). same (get_or (u ∷ us) i u).local.unit a ≡ true) (eqb-true j k f) (passes_at (λ v. same v.local.unit a) (u ∷ us) j u e)) in
        let two = passes_at (λ v. same v.local.unit n) (u ∷ us) k u h in
        let three : same a n ≡ true = subst (λ (m : UnitName). same m n ≡ true) one two in cc

-- an event with no row is another than one that has one
pub not_there : (rs : List EventRow) (event ev : EventName) (j : ℕ) → event_place event rs ≡ Some j → event_place ev rs ≡ None → same_event event ev ≡ false
not_there rs event ev j h g = false_from_ne_true (same_event event ev) (λ f.
    let z : event_place ev rs ≡ Some j = subst (λ (e : EventName). event_place e rs ≡ Some j) ((same_event_decides event ev).0 f) h in cc)

-- two events have one place exactly where they are one
pub both_ways : (a b : Bool) → (a ≡ true → b ≡ true) → (b ≡ true → a ≡ true) → a ≡ b
both_ways true b f g = sym (f refl)
both_ways false b f g = sym (false_from_ne_true b (λ e. let z : false ≡ true = g e in cc))

pub same_place : (rs : List EventRow) (event ev : EventName) (j i : ℕ) → event_place event rs ≡ Some j → event_place ev rs ≡ Some i → (i == j) ≡ same_event event ev
same_place [] event ev j i h g = absurd (cc)
same_place (r ∷ rs) event ev j i h g = both_ways (i == j) (same_event event ev) forth back
  where
    forth : (i == j) ≡ true → same_event event ev ≡ true
    forth e =
        let here = passes_at (λ q. same_event q.event event) (r ∷ rs) j r h in
        let there = subst (λ (k : ℕ). same_event (get_or (r ∷ rs) k r).event ev ≡ true) (eqb-true i j e) (passes_at (λ q. same_event q.event ev) (r ∷ rs) i r g) in
        let row = get_or (r ∷ rs) j r in
        (same_event_decides event ev).1 (sym ((same_event_decides row.event event).0 here) ∙ (same_event_decides row.event ev).0 there)

    back : same_event event ev ≡ true → (i == j) ≡ true
    back f =
        let z : Some i ≡ Some j = sym g ∙ ap (λ (x : EventName). event_place x (r ∷ rs)) (sym ((same_event_decides event ev).0 f)) ∙ h in
        eq-eqb i j (let w : i ≡ j = cc in w)

module _ (R : Rules) (s : List OwnState) (past : List Entry) (us : List Unit) (n : UnitName) (seats : (m : UnitName) → IsSeat m (own R s past m) (deliveries R s past m) (find m us)) where
  -- who has no place isn't there
  pub absent : place_of n us ≡ None → own R s past n ≡ None
  absent h = by (own R s past n) (subst (IsSeat n (own R s past n) (deliveries R s past n)) (at_none n us h).0 (seats n))
    where
      by : (o : Option OwnState) → IsSeat n o (deliveries R s past n) None → o ≡ None
      by None seat = refl
      by (Some st) seat = absurd seat

  -- who has one is
  pub present : (k : ℕ) → place_of n us ≡ Some k → (st : OwnState) × (own R s past n ≡ Some st)
  present k h = go us refl h
    where
      by : (d : Unit) (o : Option OwnState) → IsSeat n o (deliveries R s past n) (Some d) → (st : OwnState) × (o ≡ Some st)
      by d None seat = absurd seat
      by d (Some st) seat = (st, refl)

      go : (vs : List Unit) → us ≡ vs → place_of n us ≡ Some k → (st : OwnState) × (own R s past n ≡ Some st)
      go [] e f = absurd (let z : place_of n [] ≡ Some k = subst (λ (l : List Unit). place_of n l ≡ Some k) e f in (let w : ⊥ = cc in w))
      go (v ∷ vs) e f = by (get_or us k v) (own R s past n) (subst (IsSeat n (own R s past n) (deliveries R s past n)) (at_some n us k v f).0 (seats n))

-- subscriptions of a unit, behind one another
pub subscriptions_at-append : (k : ℕ) (xs ys : List (Subscription (List Clause))) → subscriptions_at k (xs ++ ys) ≡ subscriptions_at k xs ++ subscriptions_at k ys
subscriptions_at-append k [] ys = refl
subscriptions_at-append k (x ∷ xs) ys =
    let l = subscriptions_at k xs in
    ap (λ (m : List (ℕ × List Clause)). if x.unit == k then (x.sub, x.filter) ∷ m else m) (subscriptions_at-append k xs ys)
    ∙ (elim (x.unit == k) as (λ b. (if b then (x.sub, x.filter) ∷ (l ++ subscriptions_at k ys) else l ++ subscriptions_at k ys)
    ≡ (if b then (x.sub, x.filter) ∷ l else l) ++ subscriptions_at k ys) [ true ↦ refl | false ↦ refl ])

pub enrols_none : (p : Option ℕ) → enrols p None ≡ []
enrols_none None = refl
enrols_none (Some k) = refl

-- what the receivers at a place are handed is marked so
pub handed_news : (event : EventName) (after : List Part) (at : Label) (ps : List Pair) (q : ℕ) (ev : EventName) (m : ℕ) → was_handed (news_at event after at ps q) ev m ≡ (same_event event ev && has_pair ps (q, m))
handed_news event after at [] q ev m = sym (and-false (same_event event ev))
handed_news event after at (p ∷ ps) q ev m = step (p.0 == q) ∙ join (p.0 == q) (same_event event ev) (p.1 == m) (was_handed (news_at event after at ps q) ev m) (has_pair ps (q, m)) (handed_news event after at ps q ev m)
  where
    step : (b : Bool) → was_handed (map (given_to event after at) (if b then p ∷ pairs_of q ps else pairs_of q ps)) ev m ≡ (if b then (same_event event ev && (p.1 == m)) || was_handed (news_at event after at ps q) ev m else was_handed (news_at event after at ps q) ev m)
    step true = refl
    step false = refl

    join : (b c d w h : Bool) → w ≡ (c && h) → (if b then (c && d) || w else w) ≡ (c && ((b && d) || h))
    join true true d w h e = ap (λ (z : Bool). d || z) e
    join true false d w h e = e
    join false true d w h e = e
    join false false d w h e = e
