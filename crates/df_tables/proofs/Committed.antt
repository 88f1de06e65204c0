-- After a commit that is handed to receivers of both kinds the tables tell of it.
use Rattle.df_tables.proofs.Names.{◌≡◌, ◌↔◌, ℕ, ◌+◌, ◌≤◌, ◌<◌, ◌==◌, ◌&&◌, ◌||◌, All, Bool, false, not, if◌then◌else◌, List, [], ◌∷◌, ◌++◌, get_or, length, map, slice_get, Option, Some, None, refl, ap, sym, subst, ◌∙◌, arith, Contains, IsStrictlySortedBy, ne_eqb, slice_get-get_or, Pair, has_pair, pair_cmp, IsReceiver, AreChosen, instance_cmp, has_place, AreNumbered, Instance, ManagedSubscription, maker_of, number_of, Label, Privilege, apply, Part, matches, commit_of, contents, deliveries, answer, born, fixed, made_by, own, own_plain, rows, roots, row_taking_laws, same, same_event, OwnState, is_nil, subscribes, Call, Commit, Given, Effect, Entry, Done, Emitted, EventName, UnitName, Managed, Root, Reply, Agrees, AreApart, AreWithin, FilterIndex, IsSeat, MakesNoManaged, MakesNoUnit, managed_by, births_by, pairs_by, places_by, places_from, event_place, IsNews, news_at, with_news, inputs, find, moved_at, moved_row, parts_of, place_of, EventRow, Unit, and-false}
use Rattle.df_index.specs.IndexState as index
use Rattle.df_instances.specs.Marks as marks
use Rattle.df_tables.proofs.Booked.{place_in}
use Rattle.df_tables.proofs.Both.{news_both}
use Rattle.df_tables.proofs.Called.{called_births}
use Rattle.df_tables.proofs.Calls.{pairs_far}
use Rattle.df_tables.proofs.Instances.{born_called, born_plain, called_are, called_places}
use Rattle.df_tables.proofs.Dispatch.{plain}
use Rattle.df_tables.proofs.Marked.{places_both, places_past}
use Rattle.df_tables.proofs.Opened.{place_within}
use Rattle.df_tables.proofs.Places.{at_some}
use Rattle.df_tables.proofs.Seats.{present}
use Rattle.df_tables.proofs.CommitSteps.{IsMade, agrees_commit, agrees_emitted}
use Rattle.df_tables.proofs.Steps.{born_by, makes_none, news_of, none_news}
use Rattle.df_tables.proofs.Tells.{row_at}

module _ (starts : List (Label × List Privilege)) (past : List Entry) (us : List Unit) (evs : List EventRow) (x : FilterIndex) (managed : List ManagedSubscription) (handed : List (List ℕ))
    (agree : Agrees rows (roots starts) past us evs x (managed_by managed handed)) (numbered : AreNumbered managed) (apart : AreApart us)
    (k : Commit) (j : ℕ) (after : List Part) (there : event_place k.event evs ≡ Some j) (is : after ≡ apply k.edit (parts_of k.event evs))
    (ps : List Pair) (labels : List Label) (inputs_are : labels ≡ inputs us) (sorted : IsStrictlySortedBy pair_cmp ps)
    (due : (p : Pair) → Contains ps p ↔ IsReceiver matches labels x j after k.edit p)
    (xs : List Instance) (up : IsStrictlySortedBy instance_cmp xs) (are : AreChosen managed (contents past k.event) k.edit xs) where
  abbrev s : List OwnState
  s = roots starts

  abbrev qs : List Pair
  qs = pairs_by us managed handed j xs

  abbrev bs : List Unit
  bs = births_by us managed k.event after xs

  -- what the commit brings to each row
  abbrev pub given : Unit → List Given
  given u = news_of rows s past u.local.unit (Some k)

  now_is : after ≡ apply k.edit (contents past k.event)
  now_is = is ∙ ap (apply k.edit) (agree.parts k.event)

  -- the receivers of both kinds bring it
  pub news_called : IsNews given k.event after (ps ++ qs) us
  news_called = news_both starts past us evs x (managed_by managed handed) agree apart k j after ps qs labels there is inputs_are sorted due (called_are starts past us evs x managed handed agree numbered k j there xs up are)

  -- who doesn't exist was handed nothing and has no row

  pub undelivered : (n : UnitName) → own rows s past n ≡ None → deliveries rows s past n ≡ []
  undelivered n none = by (own rows s past n) (find n us) (agree.seats n) none
    where
      by : (o : Option OwnState) (p : Option Unit) → IsSeat n o (deliveries rows s past n) p → o ≡ None → deliveries rows s past n ≡ []
      by None None seat e = seat
      by None (Some u) seat e = absurd seat
      by (Some st) p seat e = absurd (let z : ⊥ = cc in z)

  unseated : (n : UnitName) → own rows s past n ≡ None → place_of n us ≡ None
  unseated n none = by (place_of n us) refl
    where
      by : (o : Option ℕ) → place_of n us ≡ o → o ≡ None
      by None e = refl
      by (Some q) e =
          let here = present rows s past us n agree.seats q e in
          absurd (let z : None ≡ Some here.0 = sym none ∙ here.1 in (let w : ⊥ = cc in w))

  -- what a plain unit is brought, by its place
  plain_brought : (path : List ℕ) (q : ℕ) → place_of (Root path) us ≡ Some q → (at : Label) × (news_of rows s past (Root path) (Some k) ≡ news_at k.event after at ps q)
  unfolding news_of
  plain_brought path q place = go us refl
    where
      go : (vs : List Unit) → us ≡ vs → (at : Label) × (news_of rows s past (Root path) (Some k) ≡ news_at k.event after at ps q)
      go [] e = absurd (let z : place_of (Root path) [] ≡ Some q = ap (place_of (Root path)) (sym e) ∙ place in (let w : ⊥ = cc in w))
      go (v ∷ vs) e =
          let u = get_or us q v in
          let here : slice_get us q ≡ Some u = slice_get-get_or us q v (place_in (Root path) us q place) in
          let row = row_at rows s past us evs x (managed_by managed handed) agree (Root path) u (at_some (Root path) us q v place).0 in
          (u.local.own.input, plain starts past us evs x (managed_by managed handed) agree apart k j after ps labels there is inputs_are sorted due q u path here place row.1)

  -- a unit comes to exist with its row, by an entry with this commit that makes no child
  births : (e : Entry) → commit_of e ≡ Some k → ((path : List ℕ) → made_by rows e path (own_plain rows s past (maker_of path)) ≡ None) → (n : UnitName) → own rows s past n ≡ None → IsSeat n (born_by rows s past e n) (news_of rows s past n (Some k)) (find n bs)
  births e commits childless (Root path) none =
      subst (λ (o : Option OwnState). IsSeat (Root path) o (news_of rows s past (Root path) (Some k)) (find (Root path) bs)) (sym (childless path))
      (subst (λ (p : Option Unit). IsSeat (Root path) None (news_of rows s past (Root path) (Some k)) p) (sym (born_plain starts past us evs x managed handed agree numbered k j there xs up are after now_is path (unseated (Root path) none)))
      (none_news rows s past path (Some k) none))
  births e commits childless (Managed o i t) none =
      let n : UnitName = Managed o i t in
      subst (λ (oc : Option Commit). IsSeat n (born rows (fixed rows s past o i) t past oc) (news_of rows s past n (Some k)) (find n bs)) (sym commits)
      (subst (λ (p : Option Unit). IsSeat n (born rows (fixed rows s past o i) t past (Some k)) (news_of rows s past n (Some k)) p)
      (sym (born_called starts past us evs x managed handed agree numbered k j there xs up are after now_is o i t (unseated n none)))
      (called_births starts past k after now_is o i t (undelivered n none)))

  -- the tables after it
  module _ (evs' : List EventRow) (x' : FilterIndex) (handed' : List (List ℕ)) (known : AreWithin us evs (managed_by managed handed).told)
      (put : (e : EventName) → parts_of e evs' ≡ (if same_event k.event e then after else parts_of e evs)) (places : (e : EventName) → event_place e evs' ≡ event_place e evs) (size : length evs' ≡ length evs)
      (enrolled : x'.enrolled ≡ x.enrolled) (booked : (e : ℕ) (p : Pair) → index.was_handed x'.handed e p ≡ (index.was_handed x.handed e p || ((e == j) && has_pair ps p)))
      (told : (e q : ℕ) → marks.was_handed handed' e q ≡ (marks.was_handed handed e q || ((e == j) && has_place (places_by (length us) qs bs) q))) where
    made : IsMade rows s past us bs evs evs' x x' (managed_by managed handed) (managed_by managed handed') k j after ps (has_place (places_by (length us) qs bs)) given
    made = record {
      place = there;
      applied = is;
      put = put;
      places = places;
      enrolled = enrolled;
      booked = booked;
      gives = λ u. refl;
      brought = plain_brought;
      kept = λ o n. refl;
      told = told;
      calls = λ o n t q place. called_places starts past us evs x managed handed agree numbered k j there xs up are after now_is (λ o i t none. undelivered (Managed o i t) none) o n t q place;
    }

    -- by a call
    pub agrees_called : (a : UnitName) (c : Call) (r : Reply) → MakesNoUnit rows c r → answer rows s past a c ≡ (r, Effect.Commit k) → MakesNoManaged rows c r → ((st : OwnState) → own rows s past a ≡ Some st → subscribes st c r ≡ None) → All (λ z. z.unit < length us) x.enrolled → ((event : ℕ) (p : Pair) → length us ≤ p.0 → index.was_handed x'.handed event p ≡ false) →
        Agrees rows s (Done a c r (Effect.Commit k) ∷ past) (moved_at a (moved_row rows c r (Effect.Commit k)) (map (with_news given) us) ++ bs) evs' x' (managed_by managed handed')
    agrees_called a c r childless right unfixed makes within seated =
        agrees_commit rows s (row_taking_laws starts) past us bs evs evs' x x' (managed_by managed handed) (managed_by managed handed') a c r k j after ps (has_place (places_by (length us) qs bs)) given agree unfixed right makes made within seated known.seated
        (births (Done a c r (Effect.Commit k)) refl (λ path. makes_none rows s c r childless (same a (Root (maker_of path))) (number_of path) (own_plain rows s past (maker_of path))))

    -- and where it is emitted
    pub agrees_told : All (λ z. z.unit < length us) x.enrolled → ((event : ℕ) (p : Pair) → length us ≤ p.0 → index.was_handed x'.handed event p ≡ false) →
        Agrees rows s (Emitted k ∷ past) (map (with_news given) us ++ bs) evs' x' (managed_by managed handed')
    agrees_told within seated =
        agrees_emitted rows s (row_taking_laws starts) past us bs evs evs' x x' (managed_by managed handed) (managed_by managed handed') k j after ps (has_place (places_by (length us) qs bs)) given agree made within seated known.seated
        (births (Emitted k) refl (λ path. refl))

    -- no more is told of who has no row
    pub within_called : (vs : List Unit) → length vs ≡ length us + length bs → AreWithin vs evs' (managed_by managed handed').told
    within_called vs rows_are = record {
      fresh = λ e q h.
          let inside = place_within k.event evs j there in
          told e q ∙ ap (λ (b : Bool). b || ((e == j) && has_place (places_by (length us) qs bs) q)) (known.fresh e q (omega (arith, size, h)))
          ∙ ap (λ (b : Bool). b && has_place (places_by (length us) qs bs) q) (ne_eqb e j (λ z. omega (arith, inside, size, h, z)));
      seated = λ e q h.
          told e q ∙ ap (λ (b : Bool). b || ((e == j) && has_place (places_by (length us) qs bs) q)) (known.seated e q (omega (arith, rows_are, h)))
          ∙ ap (λ (b : Bool). (e == j) && b)
          (places_both (length us) q qs bs
          ∙ ap (λ (l : List Pair). not (is_nil l) || has_place (places_from (length us) bs) q) (pairs_far managed numbered us handed j xs q (omega (arith, rows_are, h)))
          ∙ places_past q (length us) bs (omega (arith, rows_are, h)))
          ∙ and-false (e == j);
    }
