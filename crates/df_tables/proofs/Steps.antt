-- The tables after one more entry.
use Rattle.df_tables.proofs.Names.{◌≡◌, inl, inr, ℕ, ◌+◌, ◌≤◌, ◌<◌, ◌==◌, ◌&&◌, List, [], ◌∷◌, ◌++◌, Option, Some, None, Bool, true, false, not, if◌then◌else◌, length, map, option_map, refl, ap, sym, subst, ◌∙◌, arith, All, eq-eqb, option_to_list, option_and_then, option_or, append-nil, Clause, Pair, maker_of, number_of, apply, cut, commit_in, commit_of, committed, contents, deliveries, deliveries_instance, deliveries_plain, instance_news, plain_news, was_handed, TakingLaws, answer, answer_of, born, fixed, fixed_by, is_given, made_by, own, own_plain, stepped, Rules, subscriptions, same, same_event, readable_at, Fixed, OwnState, is_nil, Call, Commit, Given, Effect, Entry, Done, EventName, UnitName, Root, Managed, Reply, same_name-exact, same_event_decides, Agrees, FilterIndex, IsSeat, MakesNoManaged, MakesNoUnit, ManagedState, enrols, is_marked, is_told, subscribed_at, subscriptions_at, IsOpened, event_place, find, names_of, place_of, moved_at, moved_row, EventRow, Unit, or_none, born_none, or-false, and-false}
use Rattle.df_index.specs.IndexState as index
use Rattle.df_tables.proofs.Finds.{find-moved}
use Rattle.df_tables.proofs.Newborn.{find-append, marked_born, place_by-append, subscribed_born, told_born, told_same}
use Rattle.df_tables.proofs.Opened.{opened_parts, place_more}
use Rattle.df_tables.proofs.Order.{names-map, names-moved, same_length}
use Rattle.df_tables.proofs.Rows.{row_plain}
use Rattle.df_tables.proofs.Seats.{absent, apart, place_of-names, present, subscriptions_at-append}

-- the state of a unit after an entry of the unit a, or of another
abbrev pub after_entry : Rules → UnitName → Bool → Call → Reply → Effect → Option OwnState → Option OwnState
after_entry R n b c r f o = if b then option_map (λ st. R.after n st c r f) o else o

-- the subscription that the entry makes
abbrev subscribed_in : Rules → Bool → Call → Reply → Option OwnState → Option (ℕ × List Clause)
subscribed_in R b c r o = if b then option_and_then (λ st. R.subscribes st c r) o else None

-- what a commit brings to a unit
unfoldable pub news_of : Rules → List OwnState → List Entry → UnitName → Option Commit → List Given
news_of R s past (Root path) oc = plain_news (own_plain R s past path) (subscriptions R s past (Root path)) (deliveries_plain R s past path) past oc
news_of R s past (Managed o n t) oc = instance_news (fixed R s past o n) n t (deliveries_instance R s past o n t) past oc

-- the state with which an entry makes a unit
abbrev pub born_by : Rules → List OwnState → List Entry → Entry → UnitName → Option OwnState
born_by R s past e (Root path) = made_by R e path (own_plain R s past (maker_of path))
born_by R s past e (Managed o n t) = born R (fixed R s past o n) t past (commit_of e)

-- a seat along equal parts
pub seat_along : (n : UnitName) (o o' : Option OwnState) (ds ds' : List Given) (p p' : Option Unit) → o' ≡ o → ds' ≡ ds → p' ≡ p → IsSeat n o ds p → IsSeat n o' ds' p'
seat_along n o o' ds ds' p p' e f g seat =
    subst (λ (x : Option OwnState). IsSeat n x ds' p') (sym e)
    (subst (λ (x : List Given). IsSeat n o x p') (sym f) (subst (λ (x : Option Unit). IsSeat n o ds x) (sym g) seat))

module _ (R : Rules) (s : List OwnState) where
  pub fixes_none : (c : Call) (r : Reply) → MakesNoManaged R c r → (b : Bool) (k : ℕ) (o : Option OwnState) → (if b then option_and_then (λ st. R.fixes st k c r) o else None) ≡ None
  fixes_none c r none true k None = refl
  fixes_none c r none true k (Some st) = none st k
  fixes_none c r none false k o = refl

  pub makes_none : (c : Call) (r : Reply) → MakesNoUnit R c r → (b : Bool) (k : ℕ) (o : Option OwnState) → (if b then option_and_then (λ st. R.makes st k c r) o else None) ≡ None
  makes_none c r none true k None = refl
  makes_none c r none true k (Some st) = none st k
  makes_none c r none false k o = refl

  -- the definitions at one more entry

  pub own_at : (past : List Entry) (e : Entry) (n : UnitName) → own R s (e ∷ past) n ≡ option_or (stepped R n e (own R s past n)) (born_by R s past e n)
  own_at past e (Root path) = refl
  own_at past e (Managed o k t) = refl

  pub delivered_at : (past : List Entry) (e : Entry) (n : UnitName) → deliveries R s (e ∷ past) n ≡ deliveries R s past n ++ news_of R s past n (commit_of e)
  unfolding news_of
  delivered_at past e (Root path) = refl
  delivered_at past e (Managed o k t) = refl

  own_step : (past : List Entry) (a : UnitName) (c : Call) (r : Reply) (f : Effect) (n : UnitName) → own R s (Done a c r f ∷ past) n ≡ option_or (after_entry R n (same a n) c r f (own R s past n)) (born_by R s past (Done a c r f) n)
  own_step past a c r f (Root path) = refl
  own_step past a c r f (Managed o k t) = refl

  deliveries_step : (past : List Entry) (a : UnitName) (c : Call) (r : Reply) (f : Effect) (n : UnitName) → deliveries R s (Done a c r f ∷ past) n ≡ deliveries R s past n ++ news_of R s past n (commit_in f)
  unfolding news_of
  deliveries_step past a c r f (Root path) = refl
  deliveries_step past a c r f (Managed o k t) = refl

  no_news : (past : List Entry) (n : UnitName) → news_of R s past n None ≡ []
  unfolding news_of
  no_news past (Root path) = by (own_plain R s past path)
    where
      by : (o : Option OwnState) → plain_news o (subscriptions R s past (Root path)) (deliveries_plain R s past path) past None ≡ []
      by None = refl
      by (Some st) = refl
  no_news past (Managed o n t) = by (fixed R s past o n)
    where
      by : (fx : Option Fixed) → instance_news fx n t (deliveries_instance R s past o n t) past None ≡ []
      by None = refl
      by (Some fx) = refl

  -- an entry that makes no subscription leaves all records
  kept_step : (past : List Entry) (a : UnitName) (c : Call) (r : Reply) (f : Effect) → MakesNoManaged R c r → (o : List ℕ) (k : ℕ) → fixed R s (Done a c r f ∷ past) o k ≡ fixed R s past o k
  kept_step past a c r f none o k = ap (option_or (fixed R s past o k)) (fixes_none c r none (same a (Root o)) k (own_plain R s past o)) ∙ or_none (fixed R s past o k)

  -- an entry that makes no unit and commits nothing makes none
  pub no_births : (past : List Entry) (a : UnitName) (c : Call) (r : Reply) (f : Effect) → MakesNoUnit R c r → commit_in f ≡ None → (n : UnitName) → born_by R s past (Done a c r f) n ≡ None
  no_births past a c r f none quiet (Root path) = makes_none c r none (same a (Root (maker_of path))) (number_of path) (own_plain R s past (maker_of path))
  no_births past a c r f none quiet (Managed o k t) = ap (born R (fixed R s past o k) t past) quiet ∙ born_none R (fixed R s past o k) t past

  -- a plain unit that doesn't exist is brought nothing
  pub none_news : (past : List Entry) (path : List ℕ) (oc : Option Commit) → own_plain R s past path ≡ None → news_of R s past (Root path) oc ≡ []
  unfolding news_of
  none_news past path oc e = ap (λ (o : Option OwnState). plain_news o (subscriptions R s past (Root path)) (deliveries_plain R s past path) past oc) e

  -- what an instance is brought, if anything, is the event
  pub instance_told : (past : List Entry) (o : List ℕ) (n : ℕ) (t : List (List ℕ)) (k : Commit) (ev : EventName) → was_handed (news_of R s past (Managed o n t) (Some k)) ev n ≡ (same_event k.event ev && not (is_nil (news_of R s past (Managed o n t) (Some k))))
  unfolding news_of
  instance_told past o n t k ev = by (fixed R s past o n)
    where
      ds : List Given
      ds = deliveries_instance R s past o n t

      go : (d : Given) (b : Bool) → d.event ≡ k.event → d.sub ≡ n → was_handed (if b then d ∷ [] else []) ev n ≡ (same_event k.event ev && not (is_nil (if b then d ∷ [] else [])))
      go d true e f = or-false _ ∙ (let t = eq-eqb d.sub n f in cc)
      go d false e f = sym (and-false (same_event k.event ev))

      by : (fx : Option Fixed) → was_handed (instance_news fx n t ds past (Some k)) ev n ≡ (same_event k.event ev && not (is_nil (instance_news fx n t ds past (Some k))))
      by None = sym (and-false (same_event k.event ev))
      by (Some fx) = go (record { event = k.event; sub = n; parts = cut (readable_at fx t) (apply k.edit (contents past k.event)) }) (is_given (Some fx) t past (Some k) && not (was_handed ds k.event n)) refl refl

-- the places of units, when others have come behind them
pub places_behind : (us bs moved : List Unit) → names_of moved ≡ names_of us → (n : UnitName) → place_of n (moved ++ bs) ≡ option_or (place_of n us) (option_map (λ k. length us + k) (place_of n bs))
places_behind us bs moved names n =
    place_by-append (λ (u : Unit). same u.local.unit n) moved bs
    ∙ ap (λ (p : Option ℕ). option_or p (option_map (λ k. length moved + k) (place_of n bs))) (place_of-names n us moved names)
    ∙ ap (λ (m : ℕ). option_or (place_of n us) (option_map (λ k. m + k) (place_of n bs))) (same_length moved us names)

module _ (R : Rules) (s : List OwnState) (laws : TakingLaws R s) where
  -- seats after an entry that commits nothing

  seat_plain : (n : UnitName) (b : Bool) (o : Option OwnState) (ds : List Given) (p : Option Unit) (c : Call) (r : Reply) (f : Effect) → commit_in f ≡ None → (b ≡ true → answer_of R n o ds c ≡ (r, f)) → IsSeat n o ds p →
      IsSeat n (after_entry R n b c r f o) ds (if b then option_map (moved_row R c r f) p else p)
  seat_plain n false o ds p c r f h e seat = seat
  seat_plain n true None ds None c r f h e seat = seat
  seat_plain n true None ds (Some u) c r f h e seat = absurd seat
  seat_plain n true (Some st) ds None c r f h e seat = absurd seat
  seat_plain n true (Some st) ds (Some u) c r f h e seat = row_plain R s laws n st ds u c r f h (e refl) seat

  -- what is subscribed after an entry that makes this subscription, if any
  subscribed_more : (past : List Entry) (us : List Unit) (evs : List EventRow) (x : FilterIndex) (w : ManagedState) (a : UnitName) (c : Call) (r : Reply) (made : Option (ℕ × List Clause)) → Agrees R s past us evs x w → ((st : OwnState) → own R s past a ≡ Some st → R.subscribes st c r ≡ made) → (n : UnitName) →
      subscribed_at (place_of n us) (x.enrolled ++ enrols (place_of a us) made) ≡ subscriptions R s past n ++ option_to_list (subscribed_in R (same a n) c r (own R s past n))
  subscribed_more past us evs x w a c r made agree makes n = by (place_of n us) refl (same a n) refl
    where
      Goal : Option ℕ → Bool → Type 0
      Goal p b = subscribed_at p (x.enrolled ++ enrols (place_of a us) made) ≡ subscriptions R s past n ++ option_to_list (subscribed_in R b c r (own R s past n))

      nothing : (b : Bool) (o : Option OwnState) → o ≡ None → option_to_list (subscribed_in R b c r o) ≡ []
      nothing true None e = refl
      nothing true (Some st) e = absurd (let z : ⊥ = cc in z)
      nothing false o e = refl

      made_here : (k : ℕ) (m : Option (ℕ × List Clause)) → subscriptions_at k (enrols (Some k) m) ≡ option_to_list m
      made_here k None = refl
      made_here k (Some sub) = ap (λ (b : Bool). if b then sub ∷ [] else []) (eq-eqb k k refl)

      made_there : (k : ℕ) (q : Option ℕ) (m : Option (ℕ × List Clause)) → ((j : ℕ) → q ≡ Some j → (j == k) ≡ false) → subscriptions_at k (enrols q m) ≡ []
      made_there k None m other = refl
      made_there k (Some j) None other = refl
      made_there k (Some j) (Some sub) other = ap (λ (b : Bool). if b then sub ∷ [] else []) (other j refl)

      by : (p : Option ℕ) → place_of n us ≡ p → (b : Bool) → same a n ≡ b → Goal p b
      by None h b g =
          let gone = absent R s past us n agree.seats h in
          sym (ap (λ (l : List (ℕ × List Clause)). subscriptions R s past n ++ l) (nothing b (own R s past n) gone) ∙ append-nil (subscriptions R s past n) ∙ sym (agree.subscribed n) ∙ ap (λ (q : Option ℕ). subscribed_at q x.enrolled) h)
      by (Some k) h true g =
          let is : a ≡ n = same_name-exact a n g in
          let there = present R s past us n agree.seats k h in
          subscriptions_at-append k x.enrolled (enrols (place_of a us) made)
          ∙ ap (λ (q : Option ℕ). subscriptions_at k x.enrolled ++ subscriptions_at k (enrols q made)) (ap (λ (m : UnitName). place_of m us) is ∙ h)
          ∙ ap (λ (l : List (ℕ × List Clause)). subscriptions_at k x.enrolled ++ l) (made_here k made)
          ∙ ap (λ (l : List (ℕ × List Clause)). l ++ option_to_list made) (sym (ap (λ (q : Option ℕ). subscribed_at q x.enrolled) h) ∙ agree.subscribed n)
          ∙ ap (λ (m : Option (ℕ × List Clause)). subscriptions R s past n ++ option_to_list m) (sym (makes there.0 (subst (λ (m : UnitName). own R s past m ≡ Some there.0) (sym is) there.1)))
          ∙ ap (λ (o : Option OwnState). subscriptions R s past n ++ option_to_list (subscribed_in R true c r o)) (sym there.1)
      by (Some k) h false g =
          subscriptions_at-append k x.enrolled (enrols (place_of a us) made)
          ∙ ap (λ (l : List (ℕ × List Clause)). subscriptions_at k x.enrolled ++ l) (made_there k (place_of a us) made (λ j e. apart us a n j k e h g))
          ∙ ap (λ (l : List (ℕ × List Clause)). l ++ []) (sym (ap (λ (q : Option ℕ). subscribed_at q x.enrolled) h) ∙ agree.subscribed n)

  -- a seat, and one that is new
  seat_or : (n : UnitName) (o o' : Option OwnState) (ds : List Given) (p p' : Option Unit) → IsSeat n o ds p → (o ≡ None → ds ≡ [] → IsSeat n o' ds p') → IsSeat n (option_or o o') ds (option_or p p')
  seat_or n None o' ds None p' seat more = more refl seat
  seat_or n None o' ds (Some u) p' seat more = absurd seat
  seat_or n (Some st) o' ds None p' seat more = absurd seat
  seat_or n (Some st) o' ds (Some u) p' seat more = seat

  was_none : (n : UnitName) (b : Bool) (c : Call) (r : Reply) (f : Effect) (o : Option OwnState) → after_entry R n b c r f o ≡ None → o ≡ None
  was_none n b c r f None e = refl
  was_none n true c r f (Some st) e = absurd (let z : ⊥ = cc in z)
  was_none n false c r f (Some st) e = e

  -- and when rows have changed too
  places_born : (a : UnitName) (g : Unit → Unit) → ((u : Unit) → (g u).local.unit ≡ u.local.unit) → (h : Unit → Unit) → ((u : Unit) → (h u).local.unit ≡ u.local.unit) → (us bs : List Unit) (n : UnitName) →
      place_of n (moved_at a g (map h us) ++ bs) ≡ option_or (place_of n us) (option_map (λ k. length us + k) (place_of n bs))
  places_born a g kept h still us bs n =
      places_behind us bs (moved_at a g (map h us)) (names-moved a g kept (map h us) ∙ names-map h still us) n

  map_same : (us : List Unit) → map (λ (u : Unit). u) us ≡ us
  map_same [] = refl
  map_same (u ∷ us) = ap (λ (l : List Unit). u ∷ l) (map_same us)

  -- after an entry that commits nothing
  pub agrees_plain : (past : List Entry) (us bs : List Unit) (evs : List EventRow) (x x' : FilterIndex) (m m' : ManagedState) (a : UnitName) (c : Call) (r : Reply) (f : Effect) (made : Option (ℕ × List Clause)) → Agrees R s past us evs x m → commit_in f ≡ None → answer R s past a c ≡ (r, f) →
      ((st : OwnState) → own R s past a ≡ Some st → R.subscribes st c r ≡ made) → x'.enrolled ≡ x.enrolled ++ enrols (place_of a us) made → x'.handed ≡ x.handed → ((o : List ℕ) (n : ℕ) → m'.kept o n ≡ option_or (m.kept o n) (fixed_by R (Done a c r f) o n (own_plain R s past o))) → ((e q : ℕ) → m'.told e q ≡ m.told e q) →
      All (λ s. s.unit < length us) x'.enrolled → ((event : ℕ) (p : Pair) → length us ≤ p.0 → index.was_handed x.handed event p ≡ false) → ((e q : ℕ) → length us ≤ q → m.told e q ≡ false) → ((n : UnitName) → own R s past n ≡ None → IsSeat n (born_by R s past (Done a c r f) n) [] (find n bs)) → Agrees R s (Done a c r f ∷ past) (moved_at a (moved_row R c r f) us ++ bs) evs x' m'
  agrees_plain past us bs evs x x' m m' a c r f made agree quiet right makes enrolled handed kept told within seated placed births =
      let moved : List Unit = moved_at a (moved_row R c r f) us in
      let here : (n : UnitName) → place_of n (moved ++ bs) ≡ option_or (place_of n us) (option_map (λ k. length us + k) (place_of n bs)) = λ n.
      ap (λ (l : List Unit). place_of n (moved_at a (moved_row R c r f) l ++ bs)) (sym (map_same us)) ∙ places_born a (moved_row R c r f) (λ u. refl) (λ u. u) (λ u. refl) us bs n in
      let delivered : (n : UnitName) → deliveries R s (Done a c r f ∷ past) n ≡ deliveries R s past n = λ n. deliveries_step R s past a c r f n ∙ ap (λ k. deliveries R s past n ++ news_of R s past n k) quiet ∙ ap (λ (l : List Given). deliveries R s past n ++ l) (no_news R s past n) ∙ append-nil (deliveries R s past n) in record {
        legal = (agree.legal, right);
        seats = λ n. seat_along n _ _ _ _ _ _
            (own_step R s past a c r f n)
            (delivered n)
            (find-append n moved bs ∙ ap (λ (p : Option Unit). option_or p (find n bs)) (find-moved a (moved_row R c r f) (λ u. refl) n us))
            (seat_or n _ _ _ _ _
            (seat_plain n (same a n) (own R s past n) (deliveries R s past n) (find n us) c r f quiet
            (λ e. subst (λ (w : UnitName). answer R s past w c ≡ (r, f)) (same_name-exact a n e) right) (agree.seats n))
            (λ e none. subst (λ (ds : List Given). IsSeat n (born_by R s past (Done a c r f) n) ds (find n bs)) (sym none) (births n (was_none n (same a n) c r f (own R s past n) e))));
        subscribed = λ n.
            ap (λ (p : Option ℕ). subscribed_at p x'.enrolled) (here n)
            ∙ subscribed_born (length us) (place_of n us) (place_of n bs) x'.enrolled within
            ∙ ap (subscribed_at (place_of n us)) enrolled ∙ subscribed_more past us evs x m a c r made agree makes n;
        marked = λ path ev k.
            ap (λ (p : Option ℕ). is_marked x'.handed p (event_place ev evs) k) (here (Root path))
            ∙ ap (λ (h : List (List Pair)). is_marked h (option_or (place_of (Root path) us) (option_map (λ k. length us + k) (place_of (Root path) bs))) (event_place ev evs) k) handed
            ∙ marked_born (length us) (place_of (Root path) us) (place_of (Root path) bs) (event_place ev evs) x.handed k seated
            ∙ agree.marked path ev k ∙ ap (λ (ds : List Given). was_handed ds ev k) (sym (delivered (Root path)));
        parts = λ ev. agree.parts ev ∙ sym (ap (λ k. committed ev k (contents past ev)) quiet);
        kept = λ o n. kept o n ∙ ap (λ (fx : Option Fixed). option_or fx (fixed_by R (Done a c r f) o n (own_plain R s past o))) (agree.kept o n);
        told = λ o n t ev.
            let u : UnitName = Managed o n t in
            ap (λ (p : Option ℕ). is_told m'.told (event_place ev evs) p) (here u)
            ∙ told_same m m' told (event_place ev evs) (option_or (place_of u us) (option_map (λ k. length us + k) (place_of u bs)))
            ∙ told_born (length us) m.told (event_place ev evs) (place_of u us) (place_of u bs) placed
            ∙ agree.told o n t ev ∙ ap (λ (ds : List Given). was_handed ds ev n) (sym (delivered u));
      }

-- a row without parts for an event that had none
pub agrees_opened : (R : Rules) (s : List OwnState) (past : List Entry) (us : List Unit) (evs evs' : List EventRow) (x : FilterIndex) (m : ManagedState) (event : EventName) → IsOpened event evs evs' → ((e : ℕ) (p : Pair) → length evs ≤ e → index.was_handed x.handed e p ≡ false) → ((e q : ℕ) → length evs ≤ e → m.told e q ≡ false) → Agrees R s past us evs x m → Agrees R s past us evs' x m
agrees_opened R s past us evs evs' x m event opened fresh untold agree = record {
  legal = agree.legal;
  seats = agree.seats;
  subscribed = agree.subscribed;
  marked = λ path ev k. same (Root path) ev k opened ∙ agree.marked path ev k;
  parts = λ e. opened_parts event evs evs' opened e ∙ agree.parts e;
  kept = agree.kept;
  told = λ o n t ev. same_told (place_of (Managed o n t) us) ev opened ∙ agree.told o n t ev;
}
  where
    -- nothing is told of an event without a row
    blank_told : (p : Option ℕ) → is_told m.told (Some (length evs)) p ≡ false
    blank_told None = refl
    blank_told (Some q) = untold (length evs) q (omega arith)

    same_told : (p : Option ℕ) (ev : EventName) → IsOpened event evs evs' → is_told m.told (event_place ev evs') p ≡ is_told m.told (event_place ev evs) p
    same_told p ev (inl e) = ap (λ (l : List EventRow). is_told m.told (event_place ev l) p) e
    same_told p ev (inr e) =
        ap (λ (l : List EventRow). is_told m.told (event_place ev l) p) e.1
        ∙ ap (λ (q : Option ℕ). is_told m.told q p) (place_more event evs ev e.0)
        ∙ by (same_event event ev) refl
      where
        by : (b : Bool) → same_event event ev ≡ b → is_told m.told (if b then Some (length evs) else event_place ev evs) p ≡ is_told m.told (event_place ev evs) p
        by true f =
            let gone : event_place ev evs ≡ None = subst (λ (z : EventName). event_place z evs ≡ None) ((same_event_decides event ev).0 f) e.0 in
            blank_told p ∙ sym (ap (λ (q : Option ℕ). is_told m.told q p) gone)
        by false f = refl

    blank_marked : (p : Option ℕ) (m : ℕ) → is_marked x.handed p (Some (length evs)) m ≡ false
    blank_marked None m = refl
    blank_marked (Some k) m = fresh (length evs) (k, m) (omega arith)

    none_marked : (p : Option ℕ) (m : ℕ) → is_marked x.handed p None m ≡ false
    none_marked None m = refl
    none_marked (Some k) m = refl

    same : (n : UnitName) (ev : EventName) (m : ℕ) → IsOpened event evs evs' → is_marked x.handed (place_of n us) (event_place ev evs') m ≡ is_marked x.handed (place_of n us) (event_place ev evs) m
    same n ev m (inl e) = ap (λ (l : List EventRow). is_marked x.handed (place_of n us) (event_place ev l) m) e
    same n ev m (inr e) =
        ap (λ (l : List EventRow). is_marked x.handed (place_of n us) (event_place ev l) m) e.1
        ∙ ap (λ (q : Option ℕ). is_marked x.handed (place_of n us) q m) (place_more event evs ev e.0)
        ∙ by (same_event event ev) refl
      where
        by : (b : Bool) → same_event event ev ≡ b → is_marked x.handed (place_of n us) (if b then Some (length evs) else event_place ev evs) m ≡ is_marked x.handed (place_of n us) (event_place ev evs) m
        by true f =
            let gone : event_place ev evs ≡ None = subst (λ (z : EventName). event_place z evs ≡ None) ((same_event_decides event ev).0 f) e.0 in
            blank_marked (place_of n us) m ∙ sym (ap (λ (q : Option ℕ). is_marked x.handed (place_of n us) q m) gone ∙ none_marked (place_of n us) m)
        by false f = refl
