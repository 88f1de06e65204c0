-- What a commit brings to instances: to one that exists, by its row, and to one that it makes.
use Rattle.df_tables.proofs.Names.{◌≡◌, ℕ, zero, suc, ◌<◌, ◌==◌, Bool, true, false, not, ◌&&◌, if◌then◌else◌, List, [], ◌∷◌, ◌++◌, get_or, length, Option, Some, None, refl, ap, sym, subst, ◌∙◌, arith, Contains, get_or_default, map-append, Clause, Pair, IsReceiver, Subscription, Label, Privilege, apply, cut, Spot, Part, contents, deliveries_instance, instance_news, was_handed, Legal, born, fixed, is_given, own_instance, rows, roots, readable_at, Fixed, OwnState, Commit, Given, Entry, EventName, Managed, FilterIndex, IsSeat, subscriptions_at, instance_row, given_to, news_at, pairs_of, Unit, filter-append}
use Rattle.std.specs.Prelude.{◌↔◌}
use Rattle.df_index.specs.Filter.{matches}
use Rattle.df_rules.proofs.Instances.{keeps_to_its_name}
use Rattle.df_tables.proofs.Steps.{news_of}

module _ (starts : List (Label × List Privilege)) (past : List Entry) (k : Commit) (after : List Part) (is : after ≡ apply k.edit (contents past k.event)) (o : List ℕ) (n : ℕ) (t : List (List ℕ)) where
  abbrev ds : List Given
  ds = deliveries_instance rows (roots starts) past o n t

  abbrev record_at : Option Fixed
  record_at = fixed rows (roots starts) past o n

  -- the event as it is handed to who reads at a label, if it is
  abbrev handed_if : Bool → Label → List Part → List Given
  handed_if b at parts = if b then record { event = k.event; sub = n; parts = cut at parts } ∷ [] else []

  -- an instance that exists is handed the event where a choice gives it and it had it not
  pub called_news : Legal rows (roots starts) past → (st : OwnState) (q : ℕ) → own_instance rows (roots starts) past o n t ≡ Some st →
      news_of rows (roots starts) past (Managed o n t) (Some k) ≡ (if is_given record_at t past (Some k) && not (was_handed ds k.event n) then given_to k.event after st.input (q, n) ∷ [] else [])
  unfolding news_of
  called_news legal st q owned =
      let kept = keeps_to_its_name (roots starts) past legal o n t st owned in
      let f = kept.0 in
      let b : Option Fixed → Bool = λ fx. is_given fx t past (Some k) && not (was_handed ds k.event n) in
      ap (λ (fx : Option Fixed). instance_news fx n t ds past (Some k)) kept.1
      ∙ ap (λ (at : Label). handed_if (b (Some f)) at (apply k.edit (contents past k.event))) (sym kept.2.input)
      ∙ ap (handed_if (b (Some f)) st.input) (sym is)
      ∙ ap (λ (fx : Option Fixed). handed_if (b fx) st.input after) (sym kept.1)

  -- the row of an instance, where a choice gives it
  abbrev pub row_if : Option Fixed → Option Unit
  row_if None = None
  row_if (Some f) = if is_given (Some f) t past (Some k) then Some (instance_row o n f t (given_to k.event after (readable_at f t) (0, n))) else None

  -- one that doesn't exist is made with its first delivery
  pub called_births : ds ≡ [] → IsSeat (Managed o n t) (born rows record_at t past (Some k)) (news_of rows (roots starts) past (Managed o n t) (Some k)) (row_if record_at)
  unfolding news_of
  called_births none = by record_at
    where
      go : (f : Fixed) (b : Bool) → IsSeat (Managed o n t) (if b then Some (rows.begin f t) else None)
          (handed_if (b && not (was_handed ds k.event n)) (readable_at f t) (apply k.edit (contents past k.event)))
          (if b then Some (instance_row o n f t (given_to k.event after (readable_at f t) (0, n))) else None)
      go f false = refl
      go f true =
          let told : not (was_handed ds k.event n) ≡ true = ap (λ (l : List Given). not (was_handed l k.event n)) none in
          let news : handed_if (not (was_handed ds k.event n)) (readable_at f t) (apply k.edit (contents past k.event)) ≡ given_to k.event after (readable_at f t) (0, n) ∷ [] =
          ap (λ (b : Bool). handed_if b (readable_at f t) (apply k.edit (contents past k.event))) told ∙ ap (handed_if true (readable_at f t)) (sym is) in
          subst (λ (l : List Given). IsSeat (Managed o n t) (Some (rows.begin f t)) l (Some (instance_row o n f t (given_to k.event after (readable_at f t) (0, n))))) (sym news)
          (record { unit = refl; own = refl; left = refl; taken = omega arith })

      by : (fx : Option Fixed) → IsSeat (Managed o n t) (born rows fx t past (Some k)) (instance_news fx n t ds past (Some k)) (row_if fx)
      by None = refl
      by (Some f) = go f (is_given (Some f) t past (Some k))

-- receivers of both kinds

pub news_at-append : (event : EventName) (after : List Part) (at : Label) (ps qs : List Pair) (q : ℕ) → news_at event after at (ps ++ qs) q ≡ news_at event after at ps q ++ news_at event after at qs q
news_at-append event after at ps qs q = simp (filter-append, map-append)

-- who subscribed to nothing isn't among the receivers of plain units

enrolled_none : (q : ℕ) (xs : List (Subscription (List Clause))) (i : ℕ) (d : Subscription (List Clause)) → i < length xs → subscriptions_at q xs ≡ [] → ((get_or xs i d).unit == q) ≡ false
enrolled_none q [] i d h none = absurd (omega arith)
enrolled_none q (x ∷ xs) zero d h none = by (x.unit == q) none
  where
    by : (b : Bool) → (if b then (x.sub, x.filter) ∷ subscriptions_at q xs else subscriptions_at q xs) ≡ [] → b ≡ false
    by true e = absurd (let z : ⊥ = cc in z)
    by false e = refl
enrolled_none q (x ∷ xs) (suc i) d h none = enrolled_none q xs i d (omega arith) (by (x.unit == q) none)
  where
    by : (b : Bool) → (if b then (x.sub, x.filter) ∷ subscriptions_at q xs else subscriptions_at q xs) ≡ [] → subscriptions_at q xs ≡ []
    by true e = absurd (let z : ⊥ = cc in z)
    by false e = e

pairs_none : (q : ℕ) (ps : List Pair) → ((i : ℕ) (d : Pair) → i < length ps → ((get_or ps i d).0 == q) ≡ false) → pairs_of q ps ≡ []
pairs_none q [] none = refl
pairs_none q (p ∷ ps) none =
    ap (λ (b : Bool). if b then p ∷ pairs_of q ps else pairs_of q ps) (none 0 p (omega arith))
    ∙ pairs_none q ps (λ i d h. none (suc i) d (omega arith))

pub unsubscribed : (labels : List Label) (x : FilterIndex) (j : ℕ) (after : List Part) (edit : List Spot × List Part) (ps : List Pair) (q : ℕ) → ((p : Pair) → Contains ps p ↔ IsReceiver matches labels x j after edit p) → subscriptions_at q x.enrolled ≡ [] → pairs_of q ps ≡ []
unsubscribed labels x j after edit ps q due none = pairs_none q ps (λ i d h.
    let p = get_or ps i d in
    let is = (due p).0 (i, h, get_or_default ps i p d h) in
    let other = enrolled_none q x.enrolled is.enrolled.0 is.subscription is.enrolled.1 none in
    let unit : (get_or x.enrolled is.enrolled.0 is.subscription).unit ≡ p.0 = ap (λ (s : Subscription (List Clause)). s.unit) is.enrolled.2 ∙ ap (λ (r : Pair). r.0) is.pair in
    subst (λ (m : ℕ). (m == q) ≡ false) unit other)
