-- The receivers of both kinds bring each row what the commit brings to its unit.
use Rattle.df_tables.proofs.Names.{◌≡◌, ◌↔◌, ℕ, Bool, true, false, not, ◌&&◌, List, [], ◌∷◌, ◌++◌, if◌then◌else◌, map, refl, get_or, slice_get, Option, Some, ap, sym, ◌∙◌, Contains, IsStrictlySortedBy, append-nil, slice_get-get_or, Pair, pair_cmp, IsReceiver, Label, Privilege, apply, Part, matches, contents, deliveries_instance, was_handed, fixed, is_given, own, own_instance, rows, roots, OwnState, Commit, Given, Entry, UnitName, Root, Managed, Agrees, AreApart, FilterIndex, ManagedState, subscribed_at, subscriptions_at, event_place, IsNews, given_to, news_at, pairs_of, inputs, parts_of, place_of, EventRow, Unit}
use Rattle.df_rules.proofs.Instances.{subscribes_to_nothing}
use Rattle.df_tables.proofs.Places.{at_some}
use Rattle.df_tables.proofs.Steps.{news_of}
use Rattle.df_tables.proofs.Tells.{row_at}
use Rattle.df_tables.proofs.Called.{called_news, news_at-append, unsubscribed}
use Rattle.df_tables.proofs.Dispatch.{plain}

-- the pair of an instance that is handed the event, at its place
abbrev pub called_pairs : List OwnState → List Entry → Commit → UnitName → ℕ → List Pair
called_pairs s past k (Root path) q = []
called_pairs s past k (Managed o n t) q =
    if is_given (fixed rows s past o n) t past (Some k) && not (was_handed (deliveries_instance rows s past o n t) k.event n)
    then (q, n) ∷ [] else []

module _ (starts : List (Label × List Privilege)) (past : List Entry) (us : List Unit) (evs : List EventRow) (x : FilterIndex) (m : ManagedState) (agree : Agrees rows (roots starts) past us evs x m) (apart : AreApart us) (k : Commit) (j : ℕ) (after : List Part) (ps qs : List Pair) (labels : List Label)
    (there : event_place k.event evs ≡ Some j) (is : after ≡ apply k.edit (parts_of k.event evs)) (inputs_are : labels ≡ inputs us) (sorted : IsStrictlySortedBy pair_cmp ps) (due : (p : Pair) → Contains ps p ↔ IsReceiver matches labels x j after k.edit p)
    (called : (n : UnitName) (q : ℕ) → place_of n us ≡ Some q → pairs_of q qs ≡ called_pairs (roots starts) past k n q) where
  now_is : after ≡ apply k.edit (contents past k.event)
  now_is = is ∙ ap (apply k.edit) (agree.parts k.event)

  instance : (q : ℕ) (u : Unit) (o : List ℕ) (n : ℕ) (t : List (List ℕ)) → place_of (Managed o n t) us ≡ Some q → own_instance rows (roots starts) past o n t ≡ Some u.local.own →
      news_of rows (roots starts) past (Managed o n t) (Some k) ≡ news_at k.event after u.local.own.input (ps ++ qs) q
  instance q u o n t place owned =
      let at = u.local.own.input in
      let none : subscriptions_at q x.enrolled ≡ [] = ap (λ (p : Option ℕ). subscribed_at p x.enrolled) (sym place) ∙ agree.subscribed (Managed o n t) ∙ subscribes_to_nothing (roots starts) past agree.legal o n t in
      let few : news_at k.event after at ps q ≡ [] = ap (map (given_to k.event after at)) (unsubscribed labels x j after k.edit ps q due none) in
      called_news starts past k after now_is o n t agree.legal u.local.own q owned
      ∙ by (is_given (fixed rows (roots starts) past o n) t past (Some k) && not (was_handed (deliveries_instance rows (roots starts) past o n t) k.event n))
      ∙ sym (ap (map (given_to k.event after at)) (called (Managed o n t) q place))
      ∙ sym (news_at-append k.event after at ps qs q ∙ ap (λ (l : List Given). l ++ news_at k.event after at qs q) few)
    where
      by : (b : Bool) → (if b then given_to k.event after u.local.own.input (q, n) ∷ [] else []) ≡ map (given_to k.event after u.local.own.input) (if b then (q, n) ∷ [] else [])
      by true = refl
      by false = refl

  pub news_both : IsNews (λ u. news_of rows (roots starts) past u.local.unit (Some k)) k.event after (ps ++ qs) us
  unfolding news_of
  news_both q d within =
      let u = get_or us q d in
      let at : slice_get us q ≡ Some u = slice_get-get_or us q d within in
      let place : place_of u.local.unit us ≡ Some q = apart q d within in
      let row = row_at rows (roots starts) past us evs x m agree u.local.unit u (at_some u.local.unit us q d place).0 in
      by u u.local.unit at place row.1
    where
      by : (u : Unit) (n : UnitName) → slice_get us q ≡ Some u → place_of n us ≡ Some q → own rows (roots starts) past n ≡ Some u.local.own → news_of rows (roots starts) past n (Some k) ≡ news_at k.event after u.local.own.input (ps ++ qs) q
      by u (Root path) at place owned =
          plain starts past us evs x m agree apart k j after ps labels there is inputs_are sorted due q u path at place owned
          ∙ sym (news_at-append k.event after u.local.own.input ps qs q
          ∙ ap (λ (l : List Pair). news_at k.event after u.local.own.input ps q ++ map (given_to k.event after u.local.own.input) l) (called (Root path) q place)
          ∙ append-nil (news_at k.event after u.local.own.input ps q))
      by u (Managed o n t) at place owned = instance q u o n t place owned
