-- The receivers that the index finds are those to whom the definitions hand the event.
use Rattle.df_tables.proofs.Names.{◌≡◌, ◌↔◌, ℕ, List, [], if◌then◌else◌, slice_get, Option, Some, option_map, ap, sym, ◌∙◌, Contains, flat_map, IsStrictlySortedBy, slice_get-map, Pair, pair_cmp, IsReceiver, handed_at, Label, Privilege, apply, cut, Part, matches, contents, deliveries_plain, offer, plain_news, own_plain, rows, roots, subscriptions, OwnState, is_nil, Commit, Entry, Root, Agrees, AreApart, FilterIndex, ManagedState, is_marked, subscribed_at, event_place, news_at, inputs, parts_of, place_of, EventRow, Unit}
use Rattle.df_rules.proofs.Numbers.{numbers_ascend}
use Rattle.df_tables.proofs.Brings.{news_is}

module _ (starts : List (Label × List Privilege)) (past : List Entry) (us : List Unit) (evs : List EventRow) (x : FilterIndex) (m : ManagedState) (agree : Agrees rows (roots starts) past us evs x m) (apart : AreApart us) (k : Commit) (j : ℕ) (after : List Part) (ps : List Pair) (labels : List Label)
    (there : event_place k.event evs ≡ Some j) (is : after ≡ apply k.edit (parts_of k.event evs)) (inputs_are : labels ≡ inputs us) (sorted : IsStrictlySortedBy pair_cmp ps) (due : (p : Pair) → Contains ps p ↔ IsReceiver matches labels x j after k.edit p) where
  -- what a plain unit is brought, by its row
  pub plain : (q : ℕ) (u : Unit) (path : List ℕ) → slice_get us q ≡ Some u → place_of (Root path) us ≡ Some q → own_plain rows (roots starts) past path ≡ Some u.local.own →
      plain_news (own_plain rows (roots starts) past path) (subscriptions rows (roots starts) past (Root path)) (deliveries_plain rows (roots starts) past path) past (Some k) ≡ news_at k.event after u.local.own.input ps q
  plain q u path at place owned =
      let subs = subscriptions rows (roots starts) past (Root path) in
      let ds = deliveries_plain rows (roots starts) past path in
      let input = u.local.own.input in
      let parts : apply k.edit (contents past k.event) ≡ after = sym (is ∙ ap (apply k.edit) (agree.parts k.event)) in
      let label : slice_get labels q ≡ Some input = ap (λ (l : List Label). slice_get l q) inputs_are ∙ slice_get-map (λ (v : Unit). v.local.own.input) us q ∙ ap (option_map (λ (v : Unit). v.local.own.input)) at in
      let marks = λ (n : ℕ). ap (λ (p : Option ℕ). is_marked x.handed p (Some j) n) (sym place) ∙ ap (λ (e : Option ℕ). is_marked x.handed (place_of (Root path) us) e n) (sym there) ∙ agree.marked path k.event n in
      let same = ap (λ (p : Option ℕ). subscribed_at p x.enrolled) (sym place) ∙ agree.subscribed (Root path) in
      ap (λ (o : Option OwnState). plain_news o subs ds past (Some k)) owned
      ∙ ap (λ (l : List Part). if is_nil (cut input k.edit.1) then [] else flat_map (λ sub. offer ds k.event (cut input l) sub) subs) parts
      ∙ news_is input ds k.event after k.edit q x.enrolled (handed_at x.handed j) labels ps label marks due subs same (numbers_ascend (roots starts) past (Root path)) sorted
