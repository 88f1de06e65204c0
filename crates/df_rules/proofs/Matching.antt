-- A unit's deliveries are what the commits call for.
use Rattle.df_rules.proofs.Names.{◌≡◌, ◌⊎◌, inl, inr, ℕ, List, [], ◌∷◌, ◌++◌, Bool, true, false, not, ◌&&◌, ◌||◌, refl, sym, ◌∙◌, ap, subst, cond, Option, Some, None, arith, ◌==◌, Contains, list_any, flat_map, and_from, or_cases, or_left, or_right, eq-eqb, Contains-append_left, Contains-append_right, Contains-append_cases, Contains-push, Contains-push_cases, list_any-append, Clause, apply, cut, Part, matches, commit_of, contents, was_handed, offer, plain_news, instance_news, deliveries, deliveries_plain, deliveries_instance, own_plain, fixed, is_given, Rules, subscriptions, same_event_decides, readable_at, same_event, OwnState, Fixed, is_nil, Commit, Given, Entry, EventName, UnitName, Root, Managed}
use Rattle.df_rules.specs.Matching.{IsMatch, IsChosen, CallsFor}

-- elements of lists

none_in : {X : Type 0} (x : X) → Contains [] x → ⊥
none_in x h = let lt = h.1 in omega arith

the_one : {X : Type 0} (x y : X) → Contains (x ∷ []) y → x ≡ y
the_one x y h = elim (Contains-push_cases [] x y h) [ inl e ↦ absurd (none_in y e) | inr e ↦ e ]

first_or_later : {X : Type 0} (x : X) (xs : List X) (y : X) → Contains (x ∷ xs) y → (x ≡ y) ⊎ Contains xs y
first_or_later x xs y h = elim (Contains-append_cases (x ∷ []) xs y h) [ inl e ↦ inl (the_one x y e) | inr e ↦ inr e ]

has_first : {X : Type 0} (x : X) (xs : List X) → Contains (x ∷ xs) x
has_first x xs = Contains-append_left (x ∷ []) xs x (Contains-push [] x)

has_later : {X : Type 0} (x : X) (xs : List X) (y : X) → Contains xs y → Contains (x ∷ xs) y
has_later x xs y h = Contains-append_right (x ∷ []) xs y h

-- what is offered to subscriptions

abbrev given : EventName → ℕ → List Part → Given
given event n parts = record { event = event; sub = n; parts = parts }

abbrev is_it : EventName → ℕ → Given → Bool
is_it event n g = same_event g.event event && (g.sub == n)

it_is : (event : EventName) (n : ℕ) → is_it event n (given event n []) ≡ true
it_is event n = and_from (same_event event event) (n == n) ((same_event_decides event event).1 refl) (eq-eqb n n refl)

-- whoever wasn't handed the event is handed it now
handed_now : (ds : List Given) (event : EventName) (n : ℕ) (parts : List Part) (rest : List Given) (w : Bool) → was_handed ds event n ≡ w → was_handed (ds ++ (cond (not w) (given event n parts ∷ []) [] ++ rest)) event n ≡ true
handed_now ds event n parts rest true e = list_any-append (is_it event n) ds rest ∙ or_left (list_any (is_it event n) ds) (list_any (is_it event n) rest) e
handed_now ds event n parts rest false e =
    list_any-append (is_it event n) ds (given event n parts ∷ rest)
    ∙ or_right (list_any (is_it event n) ds) (is_it event n (given event n parts) || list_any (is_it event n) rest) (or_left (is_it event n (given event n parts)) (list_any (is_it event n) rest) (it_is event n))

-- a further offer takes nothing away
handed_still : (ds more rest : List Given) (event : EventName) (n : ℕ) → was_handed (ds ++ rest) event n ≡ true → was_handed (ds ++ (more ++ rest)) event n ≡ true
handed_still ds more rest event n h =
    let test = is_it event n in
    list_any-append test ds (more ++ rest)
    ∙ elim (or_cases (list_any test ds) (list_any test rest) (sym (list_any-append test ds rest) ∙ h)) [
      | inl e ↦ or_left (list_any test ds) (list_any test (more ++ rest)) e
      | inr e ↦ or_right (list_any test ds) (list_any test (more ++ rest)) (list_any-append test more rest ∙ or_right (list_any test more) (list_any test rest) e)
    ]

module _ (ds : List Given) (event : EventName) (parts : List Part) where
  abbrev offers : List (ℕ × List Clause) → List Given
  offers subs = flat_map (λ sub. offer ds event parts sub) subs

  -- what is offered is the parts, which match the filter of a subscription
  offers_match : (subs : List (ℕ × List Clause)) (d : Given) → Contains (offers subs) d →
      (filter : List Clause) × Contains subs (d.sub, filter) × (d.event ≡ event) × (d.parts ≡ parts) × (matches filter d.parts ≡ true)
  offers_match [] d h = absurd (none_in d h)
  offers_match (x ∷ subs) d h = go (Contains-append_cases (offer ds event parts x) (offers subs) d h) (offers_match subs d)
    where
      mine : (m w : Bool) → matches x.1 parts ≡ m → Contains (cond (m && not w) (given event x.0 parts ∷ []) []) d →
          (filter : List Clause) × Contains (x ∷ subs) (d.sub, filter) × (d.event ≡ event) × (d.parts ≡ parts) × (matches filter d.parts ≡ true)
      mine false w e h = absurd (none_in d h)
      mine true true e h = absurd (none_in d h)
      mine true false e h =
          let same = the_one (given event x.0 parts) d h in
          let same_parts : parts ≡ d.parts = ap (λ (g : Given). g.parts) same in
          (x.1, subst (λ (k : ℕ). Contains (x ∷ subs) (k, x.1)) (ap (λ (g : Given). g.sub) same) (has_first x subs), sym (ap (λ (g : Given). g.event) same), sym same_parts, subst (λ (ps : List Part). matches x.1 ps ≡ true) same_parts e)

      go : Contains (offer ds event parts x) d ⊎ Contains (offers subs) d →
          (Contains (offers subs) d → (filter : List Clause) × Contains subs (d.sub, filter) × (d.event ≡ event) × (d.parts ≡ parts) × (matches filter d.parts ≡ true)) →
          (filter : List Clause) × Contains (x ∷ subs) (d.sub, filter) × (d.event ≡ event) × (d.parts ≡ parts) × (matches filter d.parts ≡ true)
      go (inl h) ih = mine (matches x.1 parts) (was_handed ds event x.0) refl h
      go (inr h) ih = let r = ih h in (r.0, has_later x subs (d.sub, r.0) r.1, r.2, r.3, r.4)

  -- each subscription whose filter matches was handed the event, or is offered it
  match_is_handed : (subs : List (ℕ × List Clause)) (n : ℕ) (filter : List Clause) → Contains subs (n, filter) → matches filter parts ≡ true → was_handed (ds ++ offers subs) event n ≡ true
  match_is_handed [] n filter h m = absurd (none_in (n, filter) h)
  match_is_handed (x ∷ subs) n filter h m =
      elim (first_or_later x subs (n, filter) h) [
        | inl same ↦ subst (λ (y : ℕ × List Clause). was_handed (ds ++ (offer ds event parts y ++ offers subs)) event n ≡ true) (sym same) (rw m (handed_now ds event n parts (offers subs) (was_handed ds event n) refl))
        | inr later ↦ handed_still ds (offer ds event parts x) (offers subs) event n (match_is_handed subs n filter later m)
      ]

-- what a commit brings to a plain unit
plain_brought : (o : Option OwnState) (subs : List (ℕ × List Clause)) (ds : List Given) (past : List Entry) (oc : Option Commit) (d : Given) → Contains (plain_news o subs ds past oc) d →
    (c : Commit) × (oc ≡ Some c) × (st : OwnState) × (o ≡ Some st) × IsMatch st.input subs past c d
plain_brought None subs ds past oc d h = absurd (none_in d h)
plain_brought (Some st) subs ds past None d h = absurd (none_in d h)
plain_brought (Some st) subs ds past (Some c) d h = go (is_nil (cut st.input c.edit.1)) refl h
  where
    go : (b : Bool) → is_nil (cut st.input c.edit.1) ≡ b → Contains (cond b [] (flat_map (λ sub. offer ds c.event (cut st.input (apply c.edit (contents past c.event))) sub) subs)) d →
        (k : Commit) × (Some c ≡ Some k) × (x : OwnState) × (Some st ≡ Some x) × IsMatch x.input subs past k d
    go true e h = absurd (none_in d h)
    go false e h =
        let r = offers_match ds c.event (cut st.input (apply c.edit (contents past c.event))) subs d h in
        (c, refl, st, refl, record { event = r.2; adds = e; parts = r.3; filter = r.0; subscribed = r.1; matched = r.4 })

plain_handed : (st : OwnState) (subs : List (ℕ × List Clause)) (ds : List Given) (past : List Entry) (c : Commit) (d : Given) → IsMatch st.input subs past c d → was_handed (ds ++ plain_news (Some st) subs ds past (Some c)) d.event d.sub ≡ true
plain_handed st subs ds past c d m =
    let handed = match_is_handed ds c.event (cut st.input (apply c.edit (contents past c.event))) subs d.sub m.filter m.subscribed (subst (λ (ps : List Part). matches m.filter ps ≡ true) m.parts m.matched) in
    rw m.adds (subst (λ (event : EventName). was_handed (ds ++ flat_map (λ sub. offer ds c.event (cut st.input (apply c.edit (contents past c.event))) sub) subs) event d.sub ≡ true) (sym m.event) handed)

-- what a commit brings to an instance
instance_brought : (fx : Option Fixed) (n : ℕ) (t : List (List ℕ)) (ds : List Given) (past : List Entry) (oc : Option Commit) (d : Given) → Contains (instance_news fx n t ds past oc) d →
    (c : Commit) × (oc ≡ Some c) × (f : Fixed) × (fx ≡ Some f) × IsChosen f n t past c d
instance_brought None n t ds past oc d h = absurd (none_in d h)
instance_brought (Some f) n t ds past None d h = absurd (none_in d h)
instance_brought (Some f) n t ds past (Some c) d h = go (is_given (Some f) t past (Some c)) refl (was_handed ds c.event n) h
  where
    go : (b : Bool) → is_given (Some f) t past (Some c) ≡ b → (w : Bool) → Contains (cond (b && not w) (given c.event n (cut (readable_at f t) (apply c.edit (contents past c.event))) ∷ []) []) d →
        (k : Commit) × (Some c ≡ Some k) × (x : Fixed) × (Some f ≡ Some x) × IsChosen x n t past k d
    go false e w h = absurd (none_in d h)
    go true e true h = absurd (none_in d h)
    go true e false h =
        let same = the_one (given c.event n (cut (readable_at f t) (apply c.edit (contents past c.event)))) d h in
        (c, refl, f, refl, record { event = sym (ap (λ (g : Given). g.event) same); sub = sym (ap (λ (g : Given). g.sub) same); chosen = e; parts = sym (ap (λ (g : Given). g.parts) same) })

instance_handed : (f : Fixed) (n : ℕ) (t : List (List ℕ)) (ds : List Given) (past : List Entry) (c : Commit) (d : Given) → IsChosen f n t past c d → was_handed (ds ++ instance_news (Some f) n t ds past (Some c)) d.event d.sub ≡ true
instance_handed f n t ds past c d m = rw (m.chosen, m.event, m.sub) (go (was_handed ds c.event n) refl)
  where
    go : (w : Bool) → was_handed ds c.event n ≡ w → was_handed (ds ++ cond (not w) (given c.event n (cut (readable_at f t) (apply c.edit (contents past c.event))) ∷ []) []) c.event n ≡ true
    go true e = handed_now ds c.event n [] [] true e
    go false e = handed_now ds c.event n (cut (readable_at f t) (apply c.edit (contents past c.event))) [] false e

module _ (R : Rules) (s : List OwnState) where
  -- each delivery is one that a commit called for
  pub called_for : (past : List Entry) (u : UnitName) (d : Given) → Contains (deliveries R s past u) d →
      (newer : List Entry) × (older : List Entry) × (e : Entry) × (c : Commit) × (past ≡ newer ++ e ∷ older) × (commit_of e ≡ Some c) × CallsFor R s older u c d
  called_for [] (Root path) d h = absurd (none_in d h)
  called_for [] (Managed o n t) d h = absurd (none_in d h)
  called_for (e ∷ past) (Root path) d h =
      go (Contains-append_cases (deliveries_plain R s past path) (plain_news (own_plain R s past path) (subscriptions R s past (Root path)) (deliveries_plain R s past path) past (commit_of e)) d h) (called_for past (Root path) d)
    where
      go : Contains (deliveries_plain R s past path) d ⊎ Contains (plain_news (own_plain R s past path) (subscriptions R s past (Root path)) (deliveries_plain R s past path) past (commit_of e)) d →
          (Contains (deliveries_plain R s past path) d → (newer : List Entry) × (older : List Entry) × (x : Entry) × (c : Commit) × (past ≡ newer ++ x ∷ older) × (commit_of x ≡ Some c) × CallsFor R s older (Root path) c d) →
          (newer : List Entry) × (older : List Entry) × (x : Entry) × (c : Commit) × (e ∷ past ≡ newer ++ x ∷ older) × (commit_of x ≡ Some c) × CallsFor R s older (Root path) c d
      go (inl h) ih = let r = ih h in (e ∷ r.0, r.1, r.2, r.3, ap (λ (es : List Entry). e ∷ es) r.4, r.5, r.6)
      go (inr h) ih =
          let b = plain_brought (own_plain R s past path) (subscriptions R s past (Root path)) (deliveries_plain R s past path) past (commit_of e) d h in
          ([], past, e, b.0, refl, b.1, (b.2, b.3, b.4))
  called_for (e ∷ past) (Managed o n t) d h =
      go (Contains-append_cases (deliveries_instance R s past o n t) (instance_news (fixed R s past o n) n t (deliveries_instance R s past o n t) past (commit_of e)) d h) (called_for past (Managed o n t) d)
    where
      go : Contains (deliveries_instance R s past o n t) d ⊎ Contains (instance_news (fixed R s past o n) n t (deliveries_instance R s past o n t) past (commit_of e)) d →
          (Contains (deliveries_instance R s past o n t) d → (newer : List Entry) × (older : List Entry) × (x : Entry) × (c : Commit) × (past ≡ newer ++ x ∷ older) × (commit_of x ≡ Some c) × CallsFor R s older (Managed o n t) c d) →
          (newer : List Entry) × (older : List Entry) × (x : Entry) × (c : Commit) × (e ∷ past ≡ newer ++ x ∷ older) × (commit_of x ≡ Some c) × CallsFor R s older (Managed o n t) c d
      go (inl h) ih = let r = ih h in (e ∷ r.0, r.1, r.2, r.3, ap (λ (es : List Entry). e ∷ es) r.4, r.5, r.6)
      go (inr h) ih =
          let b = instance_brought (fixed R s past o n) n t (deliveries_instance R s past o n t) past (commit_of e) d h in
          ([], past, e, b.0, refl, b.1, (b.2, b.3, b.4))

  -- what a commit calls for is handed by then
  pub handed_by_then : (e : Entry) (past : List Entry) (u : UnitName) (c : Commit) (d : Given) → commit_of e ≡ Some c → CallsFor R s past u c d → was_handed (deliveries R s (e ∷ past) u) d.event d.sub ≡ true
  handed_by_then e past (Root path) c d same calls =
      rw (same, calls.1) (plain_handed calls.0 (subscriptions R s past (Root path)) (deliveries_plain R s past path) past c d calls.2)
  handed_by_then e past (Managed o n t) c d same calls =
      rw (same, calls.1) (instance_handed calls.0 n t (deliveries_instance R s past o n t) past c d calls.2)
