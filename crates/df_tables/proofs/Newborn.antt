-- The tables with one more row.
use Rattle.df_tables.proofs.Names.{◌≡◌, ℕ, zero, suc, ◌+◌, ◌≤◌, ◌<◌, ◌==◌, Bool, true, false, if◌then◌else◌, List, [], ◌∷◌, ◌++◌, length, get_or, set, Option, Some, None, option_map, refl, ap, sym, subst, ◌∙◌, arith, All, length-append, is_none, option_or, append-nil, get_or_append_left, length-set, map-append, set-append_left, get_or-append_seam, eqb-true, eqb-false, All-head, All-push, All-tail, Clause, Pair, Subscription, Label, same, UnitName, same_name-exact, same_name_decides, seat_of, Seat, AreApart, FilterIndex, IsWhole, ManagedState, is_marked, is_told, subscribed_at, subscriptions_at, if_new, IsBoard, IsRollOf, place_by, IsCalm, modify, AreLabels, inputs, find, place_of, Board, EventRow, Unit, ne_eqb}
use Rattle.df_index.specs.IndexState as index
use Rattle.df_tables.proofs.Opened.{end_none, end_some}

-- places and rows behind others

pub place_by-append : {A : Type 0} (p : A → Bool) (xs ys : List A) → place_by p (xs ++ ys) ≡ option_or (place_by p xs) (option_map (λ k. length xs + k) (place_by p ys))
place_by-append p [] ys = by (place_by p ys)
  where
    by : (o : Option ℕ) → o ≡ option_or None (option_map (λ k. 0 + k) o)
    by None = refl
    by (Some k) = ap Some (omega arith)
place_by-append p (x ∷ xs) ys = ap (λ (o : Option ℕ). if p x then Some 0 else option_map suc o) (place_by-append p xs ys) ∙ by (p x) (place_by p xs) (place_by p ys)
  where
    by : (b : Bool) (o q : Option ℕ) → (if b then Some 0 else option_map suc (option_or o (option_map (λ k. length xs + k) q))) ≡ option_or (if b then Some 0 else option_map suc o) (option_map (λ k. length (x ∷ xs) + k) q)
    by true o q = refl
    by false (Some k) q = refl
    by false None None = refl
    by false None (Some k) = ap Some (omega arith)

pub find-append : (n : UnitName) (us bs : List Unit) → find n (us ++ bs) ≡ option_or (find n us) (find n bs)
find-append n [] bs = refl
find-append n (u ∷ us) bs =
    elim (same u.local.unit n) as (λ b. (if b then Some u else find n (us ++ bs)) ≡ option_or (if b then Some u else find n us) (find n bs))
    [ true ↦ refl | false ↦ find-append n us bs ]

pub modify-append : {X : Type 0} (f : X → X) (k : ℕ) (xs ys : List X) → k < length xs → modify k f (xs ++ ys) ≡ modify k f xs ++ ys
modify-append f k [] ys h = absurd (omega arith)
modify-append f zero (x ∷ xs) ys h = refl
modify-append {X} f (suc k) (x ∷ xs) ys h = ap (λ (l : List X). x ∷ l) (modify-append f k xs ys (omega arith))

-- who has no row has neither subscriptions nor marks

abbrev pub IsOf : ℕ → Subscription (List Clause) → Type 0
IsOf m s = s.unit < m

beyond : (m j : ℕ) (xs : List (Subscription (List Clause))) → All (IsOf m) xs → m ≤ j → subscriptions_at j xs ≡ []
beyond m j [] all h = refl
beyond m j (x ∷ xs) all h =
    let below = All-head (IsOf m) x xs all in
    let rest = subscriptions_at j xs in
    ap (λ (b : Bool). if b then (x.sub, x.filter) ∷ rest else rest) (ne_eqb x.unit j (λ e. omega (arith, below, e, h)))
    ∙ beyond m j xs (All-tail (IsOf m) x xs all) h

-- subscriptions of who had a row stay, and who has one now had none
pub subscribed_born : (m : ℕ) (p q : Option ℕ) (xs : List (Subscription (List Clause))) → All (IsOf m) xs → subscribed_at (option_or p (option_map (λ k. m + k) q)) xs ≡ subscribed_at p xs
subscribed_born m (Some k) q xs all = refl
subscribed_born m None None xs all = refl
subscribed_born m None (Some k) xs all = beyond m (m + k) xs all (omega arith)

-- and so it is with marks
pub marked_born : (m : ℕ) (p q e : Option ℕ) (handed : List (List Pair)) (sub : ℕ) → ((event : ℕ) (r : Pair) → m ≤ r.0 → index.was_handed handed event r ≡ false) → is_marked handed (option_or p (option_map (λ k. m + k) q)) e sub ≡ is_marked handed p e sub
marked_born m (Some k) q e handed sub none = refl
marked_born m None None e handed sub none = refl
marked_born m None (Some k) None handed sub none = refl
marked_born m None (Some k) (Some i) handed sub none = none i (m + k, sub) (omega arith)

-- and with what is told of instances
pub told_born : (n : ℕ) (told : ℕ → ℕ → Bool) (e p q : Option ℕ) → ((event place : ℕ) → n ≤ place → told event place ≡ false) → is_told told e (option_or p (option_map (λ k. n + k) q)) ≡ is_told told e p
told_born n told None p q none = refl
told_born n told (Some e) (Some k) q none = refl
told_born n told (Some e) None None none = refl
told_born n told (Some e) None (Some k) none = none e (n + k) (omega arith)

pub told_same : (m m' : ManagedState) → ((e q : ℕ) → m'.told e q ≡ m.told e q) → (e p : Option ℕ) → is_told m'.told e p ≡ is_told m.told e p
told_same m m' same None p = refl
told_same m m' same (Some e) None = refl
told_same m m' same (Some e) (Some q) = same e q

-- the tables fit each other with a row of who had none

self_same : (n : UnitName) → same n n ≡ true
self_same n = (same_name_decides n n).1 refl

apart_born : (us : List Unit) (u : Unit) → AreApart us → place_of u.local.unit us ≡ None → AreApart (us ++ u ∷ [])
apart_born us u apart none k d h = by (k == length us) refl
  where
    by : (b : Bool) → (k == length us) ≡ b → place_of (get_or (us ++ u ∷ []) k d).local.unit (us ++ u ∷ []) ≡ Some k
    by true e =
        let is : k ≡ length us = eqb-true k (length us) e in
        let row : get_or (us ++ u ∷ []) k d ≡ u = ap (λ (i : ℕ). get_or (us ++ u ∷ []) i d) is ∙ get_or-append_seam us u [] d in
        ap (λ (v : Unit). place_of v.local.unit (us ++ u ∷ [])) row
        ∙ end_none (λ (v : Unit). same v.local.unit u.local.unit) us u none
        ∙ ap (λ (b : Bool). if b then Some (length us) else None) (self_same u.local.unit)
        ∙ ap Some (sym is)
    by false e =
        let n = length-append us (u ∷ []) in
        let never = eqb-false k (length us) e in
        let other : k < length us = omega (arith, h, n, never) in
        let row : get_or (us ++ u ∷ []) k d ≡ get_or us k d = get_or_append_left us (u ∷ []) d k other in
        ap (λ (v : Unit). place_of v.local.unit (us ++ u ∷ [])) row
        ∙ end_some (λ (v : Unit). same v.local.unit (get_or us k d).local.unit) us (u ∷ []) k (apart k d other)

whole_added : (us : List Unit) (evs : List EventRow) (x : FilterIndex) (u : Unit) → IsCalm u → place_of u.local.unit us ≡ None → IsWhole us evs x → IsWhole (us ++ u ∷ []) evs x
whole_added us evs x u calm none whole = record {
  apart = apart_born us u whole.apart none;
  calm = All-push IsCalm us u whole.calm calm;
  enrolled = λ i d within. let n = length-append us (u ∷ []) in let h = whole.enrolled i d within in omega (arith, n, h);
  fresh = whole.fresh;
  seated = λ e p h. whole.seated e p (let n = length-append us (u ∷ []) in omega (arith, n, h));
}

pub whole_born : (us : List Unit) (evs : List EventRow) (x : FilterIndex) (u : Unit) → IsCalm u → IsWhole us evs x → IsWhole (us ++ if_new u us) evs x
whole_born us evs x u calm whole = by (place_of u.local.unit us) refl
  where
    by : (o : Option ℕ) → place_of u.local.unit us ≡ o → IsWhole (us ++ (if is_none o then u ∷ [] else [])) evs x
    by None e = whole_added us evs x u calm e whole
    by (Some k) e = subst (λ (l : List Unit). IsWhole l evs x) (sym (append-nil us)) whole

-- the roll has the place of the new row
pub roll_born : (seats more : List Seat) (us : List Unit) (u : Unit) → IsRollOf seats us → ((n : UnitName) → seat_of n more ≡ option_or (seat_of n seats) (if same u.local.unit n then Some (length us) else None)) → IsRollOf more (us ++ if_new u us)
roll_born seats more us u roll is n =
    is n ∙ ap (λ (o : Option ℕ). option_or o (if same u.local.unit n then Some (length us) else None)) (roll n)
    ∙ by (place_of u.local.unit us) refl
    ∙ sym (place_by-append (λ (v : Unit). same v.local.unit n) us (if_new u us))
  where
    new : (b : Bool) → (if b then Some (length us) else None) ≡ option_map (λ k. length us + k) (if b then Some 0 else option_map suc None)
    new true = ap Some (omega arith)
    new false = refl

    had : (k : ℕ) → place_of u.local.unit us ≡ Some k → (b : Bool) → same u.local.unit n ≡ b → option_or (place_of n us) (if b then Some (length us) else None) ≡ option_or (place_of n us) None
    had k e true f =
        let there : place_of n us ≡ Some k = subst (λ (m : UnitName). place_of m us ≡ Some k) (same_name-exact u.local.unit n f) e in
        ap (λ (o : Option ℕ). option_or o (Some (length us))) there ∙ sym (ap (λ (o : Option ℕ). option_or o None) there)
    had k e false f = refl

    by : (o : Option ℕ) → place_of u.local.unit us ≡ o → option_or (place_of n us) (if same u.local.unit n then Some (length us) else None) ≡ option_or (place_of n us) (option_map (λ k. length us + k) (place_of n (if is_none o then u ∷ [] else [])))
    by None e = ap (option_or (place_of n us)) (new (same u.local.unit n))
    by (Some k) e = had k e (same u.local.unit n) refl

-- the labels have that of the new row

pub labels_born : (us : List Unit) (u : Unit) (ls : List Label) (stale : Option ℕ) → AreLabels (inputs us) ls stale → AreLabels (inputs (us ++ u ∷ [])) (ls ++ u.local.own.input ∷ []) stale
labels_born us u ls stale are = subst (λ (now : List Label). AreLabels now (ls ++ u.local.own.input ∷ []) stale) (sym (map-append (λ (v : Unit). v.local.own.input) us (u ∷ []))) (by (inputs us) stale are)
  where
    by : (now : List Label) (p : Option ℕ) → AreLabels now ls p → AreLabels (now ++ u.local.own.input ∷ []) (ls ++ u.local.own.input ∷ []) p
    by now None is = ap (λ (l : List Label). l ++ u.local.own.input ∷ []) is
    by now (Some k) is = (
      let n = length-append now (u.local.own.input ∷ []) in omega (arith, n, is.0),
      λ l.
          let long : k < length ls = (let n = length-set ls k (get_or now k l) in let m : length (set ls k (get_or now k l)) ≡ length now = ap length (is.1 l) in let h = is.0 in omega (arith, n, m, h)) in
          ap (λ (v : Label). set (ls ++ u.local.own.input ∷ []) k v) (get_or_append_left now (u.local.own.input ∷ []) l k is.0)
          ∙ set-append_left ls (u.local.own.input ∷ []) k (get_or now k l) long
          ∙ ap (λ (v : List Label). v ++ u.local.own.input ∷ []) (is.1 l),
    )

-- a board whose roll has seated a unit
module _ (old new : Board) (u : Unit) (board : IsBoard old) (calm : IsCalm u)
    (seated : (n : UnitName) → seat_of n new.roll.seats ≡ option_or (seat_of n old.roll.seats) (if same u.local.unit n then Some (length old.rows.items) else None))
    (events : new.events ≡ old.events) (indexed : new.index ≡ old.index) (stale : new.stale ≡ old.stale) where
  abbrev us : List Unit
  us = old.rows.items

  whole_of : (vs : List Unit) → IsWhole vs old.events old.index → new.rows.items ≡ vs → IsWhole new.rows.items new.events new.index
  whole_of vs whole rows =
      subst (λ (l : List Unit). IsWhole l new.events new.index) (sym rows)
      (subst (λ (evs : List EventRow). IsWhole vs evs new.index) (sym events)
      (subst (λ (x : FilterIndex). IsWhole vs old.events x) (sym indexed) whole))

  roll_of : (vs : List Unit) → us ++ if_new u us ≡ vs → new.rows.items ≡ vs → IsRollOf new.roll.seats new.rows.items
  roll_of vs is rows = subst (IsRollOf new.roll.seats) (is ∙ sym rows) (roll_born old.roll.seats new.roll.seats us u board.roll seated)

  -- that had a seat
  pub board_had : is_none (seat_of u.local.unit old.roll.seats) ≡ false → new.rows.items ≡ us → new.labels.items ≡ old.labels.items → IsBoard new
  board_had had rows labels =
      let none : us ++ if_new u us ≡ us = ap (λ (b : Bool). us ++ (if b then u ∷ [] else [])) (ap is_none (sym (board.roll u.local.unit)) ∙ had) ∙ append-nil us in record {
        whole = whole_of us board.whole rows;
        roll = roll_of us none rows;
        labels = subst (λ (l : List Unit). AreLabels (inputs l) new.labels.items new.stale) (sym rows)
            (subst (λ (ls : List Label). AreLabels (inputs us) ls new.stale) (sym labels) (subst (AreLabels (inputs us) old.labels.items) (sym stale) board.labels));
      }

  -- that had none
  pub board_new : is_none (seat_of u.local.unit old.roll.seats) ≡ true → new.rows.items ≡ us ++ u ∷ [] → new.labels.items ≡ old.labels.items ++ u.local.own.input ∷ [] → IsBoard new
  board_new new_one rows labels =
      let one : us ++ if_new u us ≡ us ++ u ∷ [] = ap (λ (b : Bool). us ++ (if b then u ∷ [] else [])) (ap is_none (sym (board.roll u.local.unit)) ∙ new_one) in record {
        whole = whole_of (us ++ u ∷ []) (subst (λ (l : List Unit). IsWhole l old.events old.index) one (whole_born us old.events old.index u calm board.whole)) rows;
        roll = roll_of (us ++ u ∷ []) one rows;
        labels = subst (λ (l : List Unit). AreLabels (inputs l) new.labels.items new.stale) (sym rows)
            (subst (λ (ls : List Label). AreLabels (inputs (us ++ u ∷ [])) ls new.stale) (sym labels) (subst (AreLabels (inputs (us ++ u ∷ [])) (old.labels.items ++ u.local.own.input ∷ [])) (sym stale) (labels_born us u old.labels.items old.stale board.labels)));
      }
