-- The tables after one more entry that has a commit.
use Rattle.df_tables.proofs.Names.{◌≡◌, ℕ, ◌+◌, ◌≤◌, ◌<◌, ◌==◌, ◌&&◌, ◌||◌, List, [], ◌∷◌, ◌++◌, Option, Some, None, Bool, true, false, not, if◌then◌else◌, length, map, option_map, refl, ap, sym, subst, ◌∙◌, arith, All, option_to_list, option_and_then, option_or, append-nil, list_any-append, Clause, Pair, has_pair, Label, apply, Part, commit_of, committed, contents, deliveries, was_handed, TakingLaws, IsRight, answer, answer_of, born, fixed, fixed_by, own, own_plain, stepped, Rules, subscribed_by, subscriptions, same, same_event, OwnState, is_nil, Call, Commit, Given, Effect, Entry, Done, Emitted, EventName, UnitName, Root, Managed, Reply, same_name-exact, same_event_decides, Agrees, FilterIndex, IsSeat, MakesNoManaged, ManagedState, is_marked, is_told, subscribed_at, event_place, news_at, with_news, find, names_of, parts_of, place_of, moved_at, moved_row, EventRow, Unit, or-false, or_none}
use Rattle.df_index.specs.IndexState as index
use Rattle.df_tables.proofs.Finds.{find-map, find-moved}
use Rattle.df_tables.proofs.Newborn.{find-append, marked_born, place_by-append, subscribed_born}
use Rattle.df_tables.proofs.Order.{names-map, names-moved}
use Rattle.df_tables.proofs.Places.{at_none}
use Rattle.df_tables.proofs.Rows.{row_news, row_commit}
use Rattle.df_tables.proofs.Seats.{absent, handed_news, not_there, same_place}
use Rattle.df_tables.proofs.Steps.{after_entry, born_by, delivered_at, fixes_none, instance_told, news_of, none_news, own_at, places_behind, seat_along}

-- the commit that is made, its event's place, its parts after it, and its receivers
pub record IsMade (R : Rules) (s : List OwnState) (past : List Entry) (us bs : List Unit) (evs evs' : List EventRow) (x x' : FilterIndex) (m m' : ManagedState) (k : Commit) (j : ℕ) (after : List Part) (ps : List Pair) (called : ℕ → Bool) (given : Unit → List Given) : Type 0 where
  pub place : event_place k.event evs ≡ Some j
  pub applied : after ≡ apply k.edit (parts_of k.event evs)
  pub put : (e : EventName) → parts_of e evs' ≡ (if same_event k.event e then after else parts_of e evs)
  pub places : (e : EventName) → event_place e evs' ≡ event_place e evs
  pub enrolled : x'.enrolled ≡ x.enrolled
  pub booked : (e : ℕ) (p : Pair) → index.was_handed x'.handed e p ≡ (index.was_handed x.handed e p || ((e == j) && has_pair ps p))
  pub gives : (u : Unit) → given u ≡ news_of R s past u.local.unit (Some k)
  pub brought : (path : List ℕ) (q : ℕ) → place_of (Root path) us ≡ Some q → (at : Label) × (news_of R s past (Root path) (Some k) ≡ news_at k.event after at ps q)
  -- the marks of instances
  pub kept : (o : List ℕ) (n : ℕ) → m'.kept o n ≡ m.kept o n
  pub told : (e q : ℕ) → m'.told e q ≡ (m.told e q || ((e == j) && called q))
  pub calls : (o : List ℕ) (n : ℕ) (t : List (List ℕ)) (q : ℕ) → place_of (Managed o n t) (us ++ bs) ≡ Some q → called q ≡ not (is_nil (news_of R s past (Managed o n t) (Some k)))

module _ (R : Rules) (s : List OwnState) (laws : TakingLaws R s) where
  -- seats after a commit

  abbrev handed_over : (Unit → List Given) → Bool → Call → Reply → Commit → Option Unit → Option Unit
  handed_over given b c r k p = if b then option_map (moved_row R c r (Effect.Commit k)) (option_map (with_news given) p) else option_map (with_news given) p

  seat_commit : (given : Unit → List Given) (n : UnitName) (b : Bool) (o born : Option OwnState) (ds news : List Given) (p q : Option Unit) (c : Call) (r : Reply) (k : Commit) → (b ≡ true → answer_of R n o ds c ≡ (r, Effect.Commit k)) → ((u : Unit) → u.local.unit ≡ n → given u ≡ news) → (o ≡ None → IsSeat n born news q) → IsSeat n o ds p →
      IsSeat n (option_or (after_entry R n b c r (Effect.Commit k) o) born) (ds ++ news) (option_or (handed_over given b c r k p) q)
  seat_commit given n true None born ds news None q c r k e is births seat = subst (λ (l : List Given). IsSeat n born (l ++ news) q) (sym seat) (births refl)
  seat_commit given n false None born ds news None q c r k e is births seat = subst (λ (l : List Given). IsSeat n born (l ++ news) q) (sym seat) (births refl)
  seat_commit given n b None born ds news (Some u) q c r k e is births seat = absurd seat
  seat_commit given n b (Some st) born ds news None q c r k e is births seat = absurd seat
  seat_commit given n true (Some st) born ds news (Some u) q c r k e is births seat = row_commit R s laws given n st ds news u c r k (e refl) (is u seat.unit) seat
  seat_commit given n false (Some st) born ds news (Some u) q c r k e is births seat = row_news given n st ds news u (is u seat.unit) seat

  -- seats after a commit that is nobody's call
  seat_given : (given : Unit → List Given) (n : UnitName) (o born : Option OwnState) (ds news : List Given) (p q : Option Unit) → ((u : Unit) → u.local.unit ≡ n → given u ≡ news) → (o ≡ None → IsSeat n born news q) → IsSeat n o ds p →
      IsSeat n (option_or o born) (ds ++ news) (option_or (option_map (with_news given) p) q)
  seat_given given n None born ds news None q is births seat = subst (λ (l : List Given). IsSeat n born (l ++ news) q) (sym seat) (births refl)
  seat_given given n None born ds news (Some u) q is births seat = absurd seat
  seat_given given n (Some st) born ds news None q is births seat = absurd seat
  seat_given given n (Some st) born ds news (Some u) q is births seat = row_news given n st ds news u (is u seat.unit) seat

  module _ (past : List Entry) (us bs : List Unit) (evs evs' : List EventRow) (x x' : FilterIndex) (m m' : ManagedState) (k : Commit) (j : ℕ) (after : List Part) (ps : List Pair) (called : ℕ → Bool) (given : Unit → List Given)
      (agree : Agrees R s past us evs x m) (made : IsMade R s past us bs evs evs' x x' m m' k j after ps called given) where
    -- marks of plain units after a commit
    marked_commit : (path : List ℕ) (ev : EventName) (i : ℕ) → is_marked x'.handed (place_of (Root path) us) (event_place ev evs') i ≡ was_handed (deliveries R s past (Root path) ++ news_of R s past (Root path) (Some k)) ev i
    marked_commit path ev i =
        ap (λ (e : Option ℕ). is_marked x'.handed (place_of (Root path) us) e i) (made.places ev)
        ∙ by (place_of (Root path) us) refl (event_place ev evs) refl
        ∙ sym (list_any-append (λ (d : Given). same_event d.event ev && (d.sub == i)) (deliveries R s past (Root path)) (news_of R s past (Root path) (Some k)))
      where
        before : Bool
        before = was_handed (deliveries R s past (Root path)) ev i

        after_it : Bool
        after_it = was_handed (news_of R s past (Root path) (Some k)) ev i

        by : (p : Option ℕ) → place_of (Root path) us ≡ p → (e : Option ℕ) → event_place ev evs ≡ e → is_marked x'.handed p e i ≡ (before || after_it)
        by None h e g =
            ap (λ (p : Option ℕ). is_marked x.handed p (event_place ev evs) i) (sym h) ∙ agree.marked path ev i
            ∙ sym (or-false before) ∙ ap (λ (ds : List Given). before || was_handed ds ev i) (sym (none_news R s past path (Some k) (absent R s past us (Root path) agree.seats h)))
        by (Some q) h None g =
            let brought = made.brought path q h in
            let old : false ≡ before = ap (λ (p : Option ℕ). is_marked x.handed p None i) (sym h) ∙ ap (λ (e : Option ℕ). is_marked x.handed (place_of (Root path) us) e i) (sym g) ∙ agree.marked path ev i in
            let other : same_event k.event ev ≡ false = not_there evs k.event ev j made.place g in
            old ∙ sym (or-false before) ∙ ap (λ (b : Bool). before || b)
            (sym (ap (λ (ds : List Given). was_handed ds ev i) brought.1 ∙ handed_news k.event after brought.0 ps q ev i ∙ ap (λ (b : Bool). b && has_pair ps (q, i)) other))
        by (Some q) h (Some l) g =
            let brought = made.brought path q h in
            let old : index.was_handed x.handed l (q, i) ≡ before = ap (λ (p : Option ℕ). is_marked x.handed p (Some l) i) (sym h) ∙ ap (λ (e : Option ℕ). is_marked x.handed (place_of (Root path) us) e i) (sym g) ∙ agree.marked path ev i in
            made.booked l (q, i)
            ∙ ap (λ (b : Bool). b || ((l == j) && has_pair ps (q, i))) old
            ∙ ap (λ (b : Bool). before || (b && has_pair ps (q, i))) (same_place evs k.event ev j l made.place g)
            ∙ ap (λ (b : Bool). before || b) (sym (ap (λ (ds : List Given). was_handed ds ev i) brought.1 ∙ handed_news k.event after brought.0 ps q ev i))

    -- what a seat without a row was handed
    seat_none : (n : UnitName) (o : Option OwnState) (ds : List Given) → IsSeat n o ds None → ds ≡ []
    seat_none n None ds seat = seat
    seat_none n (Some st) ds seat = absurd seat

    none_given : (n : UnitName) → place_of n us ≡ None → deliveries R s past n ≡ []
    none_given n h = seat_none n (own R s past n) (deliveries R s past n) (subst (IsSeat n (own R s past n) (deliveries R s past n)) (at_none n us h).0 (agree.seats n))

    module _ (born : UnitName → Option OwnState) (placed : (e q : ℕ) → length us ≤ q → m.told e q ≡ false) (births : (n : UnitName) → own R s past n ≡ None → IsSeat n (born n) (news_of R s past n (Some k)) (find n bs)) (o : List ℕ) (n : ℕ) (t : List (List ℕ)) (ev : EventName) where
      abbrev who : UnitName
      who = Managed o n t

      abbrev before : Bool
      before = was_handed (deliveries R s past who) ev n

      abbrev after_it : Bool
      after_it = was_handed (news_of R s past who (Some k)) ev n

      place_is : place_of who (us ++ bs) ≡ option_or (place_of who us) (option_map (λ q. length us + q) (place_of who bs))
      place_is = place_by-append (λ (u : Unit). same u.local.unit who) us bs

      -- what was told of the place
      told_before : (i q : ℕ) → place_of who (us ++ bs) ≡ Some q → event_place ev evs ≡ Some i → m.told i q ≡ before
      told_before i q h g = by (place_of who us) refl (place_of who bs) refl (sym place_is ∙ h)
        where
          by : (p : Option ℕ) → place_of who us ≡ p → (b : Option ℕ) → place_of who bs ≡ b → option_or p (option_map (λ r. length us + r) b) ≡ Some q → m.told i q ≡ before
          by (Some p) f b l e =
              let z : p ≡ q = cc in
              ap (m.told i) (sym z) ∙ sym (ap (λ (w : Option ℕ). is_told m.told (Some i) w) f) ∙ ap (λ (w : Option ℕ). is_told m.told w (place_of who us)) (sym g) ∙ agree.told o n t ev
          by None f (Some b) l e =
              let z : length us + b ≡ q = cc in
              placed i q (omega (arith, z)) ∙ sym (ap (λ (ds : List Given). was_handed ds ev n) (none_given who f))
          by None f None l e = absurd (let z : ⊥ = cc in z)

      -- who has no place was and is brought nothing
      untold : place_of who (us ++ bs) ≡ None → (before || after_it) ≡ false
      untold h =
          let none = by (place_of who us) (place_of who bs) (sym place_is ∙ h) in
          let gone = absent R s past us who agree.seats none.0 in
          let news : news_of R s past who (Some k) ≡ [] = seat_none who (born who) (news_of R s past who (Some k)) (subst (IsSeat who (born who) (news_of R s past who (Some k))) (at_none who bs none.1).0 (births who gone)) in
          ap (λ (ds : List Given). was_handed ds ev n || after_it) (none_given who none.0) ∙ ap (λ (ds : List Given). was_handed ds ev n) news
        where
          by : (p b : Option ℕ) → option_or p (option_map (λ r. length us + r) b) ≡ None → (p ≡ None) × (b ≡ None)
          by (Some p) b e = absurd (let z : ⊥ = cc in z)
          by None (Some b) e = absurd (let z : ⊥ = cc in z)
          by None None e = (refl, refl)

      told_commit : is_told m'.told (event_place ev evs') (place_of who (us ++ bs)) ≡ was_handed (deliveries R s past who ++ news_of R s past who (Some k)) ev n
      told_commit =
          ap (λ (e : Option ℕ). is_told m'.told e (place_of who (us ++ bs))) (made.places ev)
          ∙ by (place_of who (us ++ bs)) refl (event_place ev evs) refl
          ∙ sym (list_any-append (λ (d : Given). same_event d.event ev && (d.sub == n)) (deliveries R s past who) (news_of R s past who (Some k)))
        where
          by : (p : Option ℕ) → place_of who (us ++ bs) ≡ p → (e : Option ℕ) → event_place ev evs ≡ e → is_told m'.told e p ≡ (before || after_it)
          by None h None g = sym (untold h)
          by None h (Some i) g = sym (untold h)
          by (Some q) h None g =
              let old : false ≡ before = ap (λ (e : Option ℕ). is_told m.told e (place_of who us)) (sym g) ∙ agree.told o n t ev in
              let other : same_event k.event ev ≡ false = not_there evs k.event ev j made.place g in
              old ∙ sym (or-false before) ∙ ap (λ (b : Bool). before || b)
              (sym (instance_told R s past o n t k ev ∙ ap (λ (b : Bool). b && not (is_nil (news_of R s past who (Some k)))) other))
          by (Some q) h (Some i) g =
              made.told i q
              ∙ ap (λ (b : Bool). b || ((i == j) && called q)) (told_before i q h g)
              ∙ ap (λ (b : Bool). before || (b && called q)) (same_place evs k.event ev j i made.place g)
              ∙ ap (λ (b : Bool). before || (same_event k.event ev && b)) (made.calls o n t q h)
              ∙ ap (λ (b : Bool). before || b) (sym (instance_told R s past o n t k ev))

  -- after an entry with a commit, which makes no subscription and after whose step these rows have their units' seats
  pub agrees_entry : (past : List Entry) (us bs moved : List Unit) (evs evs' : List EventRow) (x x' : FilterIndex) (m m' : ManagedState) (e : Entry) (k : Commit) (j : ℕ) (after : List Part) (ps : List Pair) (called : ℕ → Bool) (given : Unit → List Given) → Agrees R s past us evs x m → IsRight R s past e → commit_of e ≡ Some k → names_of moved ≡ names_of us →
      ((n : UnitName) → subscribed_by R e n (own R s past n) ≡ None) → ((o : List ℕ) (n : ℕ) → fixed_by R e o n (own_plain R s past o) ≡ None) → IsMade R s past us bs evs evs' x x' m m' k j after ps called given →
      All (λ s. s.unit < length us) x.enrolled → ((event : ℕ) (p : Pair) → length us ≤ p.0 → index.was_handed x'.handed event p ≡ false) → ((e q : ℕ) → length us ≤ q → m.told e q ≡ false) → ((n : UnitName) → own R s past n ≡ None → IsSeat n (born_by R s past e n) (news_of R s past n (Some k)) (find n bs)) →
      ((n : UnitName) → IsSeat n (option_or (stepped R n e (own R s past n)) (born_by R s past e n)) (deliveries R s past n ++ news_of R s past n (Some k)) (option_or (find n moved) (find n bs))) →
      Agrees R s (e ∷ past) (moved ++ bs) evs' x' m'
  agrees_entry past us bs moved evs evs' x x' m m' e k j after ps called given agree right commits named makes fixes made within seated placed births seats =
      let here : (n : UnitName) → place_of n (moved ++ bs) ≡ option_or (place_of n us) (option_map (λ q. length us + q) (place_of n bs)) = λ n. places_behind us bs moved named n in
      let delivered : (n : UnitName) → deliveries R s (e ∷ past) n ≡ deliveries R s past n ++ news_of R s past n (Some k) = λ n. delivered_at R s past e n ∙ ap (λ (oc : Option Commit). deliveries R s past n ++ news_of R s past n oc) commits in
      let is' : after ≡ apply k.edit (contents past k.event) = made.applied ∙ ap (apply k.edit) (agree.parts k.event) in record {
        legal = (agree.legal, right);
        seats = λ n. seat_along n _ _ _ _ _ _ (own_at R s past e n) (delivered n) (find-append n moved bs) (seats n);
        subscribed = λ n.
            ap (λ (p : Option ℕ). subscribed_at p x'.enrolled) (here n)
            ∙ ap (subscribed_at (option_or (place_of n us) (option_map (λ q. length us + q) (place_of n bs)))) made.enrolled
            ∙ subscribed_born (length us) (place_of n us) (place_of n bs) x.enrolled within
            ∙ agree.subscribed n
            ∙ sym (ap (λ (o : Option (ℕ × List Clause)). subscriptions R s past n ++ option_to_list o) (makes n) ∙ append-nil (subscriptions R s past n));
        marked = λ path ev i.
            ap (λ (p : Option ℕ). is_marked x'.handed p (event_place ev evs') i) (here (Root path))
            ∙ marked_born (length us) (place_of (Root path) us) (place_of (Root path) bs) (event_place ev evs') x'.handed i seated
            ∙ marked_commit past us bs evs evs' x x' m m' k j after ps called given agree made path ev i
            ∙ ap (λ (ds : List Given). was_handed ds ev i) (sym (delivered (Root path)));
        parts = λ ev. made.put ev ∙ by ev (same_event k.event ev) refl is' ∙ ap (λ (oc : Option Commit). committed ev oc (contents past ev)) (sym commits);
        kept = λ o n. made.kept o n ∙ agree.kept o n ∙ sym (ap (option_or (fixed R s past o n)) (fixes o n) ∙ or_none (fixed R s past o n));
        told = λ o n t ev.
            let u : UnitName = Managed o n t in
            ap (is_told m'.told (event_place ev evs')) (here u ∙ sym (place_by-append (λ (v : Unit). same v.local.unit u) us bs))
            ∙ told_commit past us bs evs evs' x x' m m' k j after ps called given agree made (born_by R s past e) placed births o n t ev
            ∙ ap (λ (ds : List Given). was_handed ds ev n) (sym (delivered u));
      }
    where
      by : (ev : EventName) (b : Bool) → same_event k.event ev ≡ b → after ≡ apply k.edit (contents past k.event) → (if b then after else parts_of ev evs) ≡ (if b then apply k.edit (contents past ev) else contents past ev)
      by ev true e is' = is' ∙ ap (λ (x : EventName). apply k.edit (contents past x)) ((same_event_decides k.event ev).0 e)
      by ev false e is' = agree.parts ev

  -- after a commit
  pub agrees_commit : (past : List Entry) (us bs : List Unit) (evs evs' : List EventRow) (x x' : FilterIndex) (m m' : ManagedState) (a : UnitName) (c : Call) (r : Reply) (k : Commit) (j : ℕ) (after : List Part) (ps : List Pair) (called : ℕ → Bool) (given : Unit → List Given) → Agrees R s past us evs x m → MakesNoManaged R c r → answer R s past a c ≡ (r, Effect.Commit k) →
      ((st : OwnState) → own R s past a ≡ Some st → R.subscribes st c r ≡ None) → IsMade R s past us bs evs evs' x x' m m' k j after ps called given →
      All (λ s. s.unit < length us) x.enrolled → ((event : ℕ) (p : Pair) → length us ≤ p.0 → index.was_handed x'.handed event p ≡ false) → ((e q : ℕ) → length us ≤ q → m.told e q ≡ false) → ((n : UnitName) → own R s past n ≡ None → IsSeat n (born_by R s past (Done a c r (Effect.Commit k)) n) (news_of R s past n (Some k)) (find n bs)) →
      Agrees R s (Done a c r (Effect.Commit k) ∷ past) (moved_at a (moved_row R c r (Effect.Commit k)) (map (with_news given) us) ++ bs) evs' x' m'
  agrees_commit past us bs evs evs' x x' m m' a c r k j after ps called given agree unfixed right makes made within seated placed births =
      let F = moved_row R c r (Effect.Commit k) in
      agrees_entry past us bs (moved_at a F (map (with_news given) us)) evs evs' x x' m m' (Done a c r (Effect.Commit k)) k j after ps called given agree right refl
      (names-moved a F (λ u. refl) (map (with_news given) us) ∙ names-map (with_news given) (λ u. refl) us)
      (λ n. subscribes_nothing n (same a n) refl (own R s past n) refl)
      (λ o n. fixes_none R s c r unfixed (same a (Root o)) n (own_plain R s past o))
      made within seated placed births
      (λ n. subst (λ (p : Option Unit). IsSeat n (option_or (after_entry R n (same a n) c r (Effect.Commit k) (own R s past n)) (born_by R s past (Done a c r (Effect.Commit k)) n)) (deliveries R s past n ++ news_of R s past n (Some k)) (option_or p (find n bs)))
      (sym (find-moved a F (λ u. refl) n (map (with_news given) us) ∙ ap (λ (p : Option Unit). if same a n then option_map F p else p) (find-map (with_news given) (λ u. refl) n us)))
      (seat_commit given n (same a n) (own R s past n) (born_by R s past (Done a c r (Effect.Commit k)) n) (deliveries R s past n) (news_of R s past n (Some k)) (find n us) (find n bs) c r k
      (λ e. subst (λ (w : UnitName). answer R s past w c ≡ (r, Effect.Commit k)) (same_name-exact a n e) right)
      (λ u e. made.gives u ∙ ap (λ (w : UnitName). news_of R s past w (Some k)) e)
      (births n) (agree.seats n)))
    where
      subscribes_nothing : (n : UnitName) (b : Bool) → same a n ≡ b → (o : Option OwnState) → own R s past n ≡ o → (if b then option_and_then (λ st. R.subscribes st c r) o else None) ≡ None
      subscribes_nothing n true e None owned = refl
      subscribes_nothing n true e (Some st) owned = makes st (ap (own R s past) (same_name-exact a n e) ∙ owned)
      subscribes_nothing n false e o owned = refl

  -- after an emitted commit, which is nobody's call
  pub agrees_emitted : (past : List Entry) (us bs : List Unit) (evs evs' : List EventRow) (x x' : FilterIndex) (m m' : ManagedState) (k : Commit) (j : ℕ) (after : List Part) (ps : List Pair) (called : ℕ → Bool) (given : Unit → List Given) → Agrees R s past us evs x m → IsMade R s past us bs evs evs' x x' m m' k j after ps called given →
      All (λ s. s.unit < length us) x.enrolled → ((event : ℕ) (p : Pair) → length us ≤ p.0 → index.was_handed x'.handed event p ≡ false) → ((e q : ℕ) → length us ≤ q → m.told e q ≡ false) → ((n : UnitName) → own R s past n ≡ None → IsSeat n (born_by R s past (Emitted k) n) (news_of R s past n (Some k)) (find n bs)) →
      Agrees R s (Emitted k ∷ past) (map (with_news given) us ++ bs) evs' x' m'
  agrees_emitted past us bs evs evs' x x' m m' k j after ps called given agree made within seated placed births =
      agrees_entry past us bs (map (with_news given) us) evs evs' x x' m m' (Emitted k) k j after ps called given agree tt refl
      (names-map (with_news given) (λ u. refl) us) (λ n. refl) (λ o n. refl) made within seated placed births
      (λ n. subst (λ (p : Option Unit). IsSeat n (option_or (own R s past n) (born_by R s past (Emitted k) n)) (deliveries R s past n ++ news_of R s past n (Some k)) (option_or p (find n bs)))
      (sym (find-map (with_news given) (λ u. refl) n us))
      (seat_given given n (own R s past n) (born_by R s past (Emitted k) n) (deliveries R s past n) (news_of R s past n (Some k)) (find n us) (find n bs)
      (λ u e. made.gives u ∙ ap (λ (w : UnitName). news_of R s past w (Some k)) e)
      (births n) (agree.seats n)))
