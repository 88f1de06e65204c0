-- Journals that differ in one unit's own state alone, and what the tables tell of them.
use Rattle.df_tables.proofs.Names.{◌≡◌, ℕ, Bool, true, false, List, Option, Some, None, if◌then◌else◌, option_map, drop, length, refl, ap, sym, subst, ◌∙◌, arith, Label, Privilege, LocalState, contents, deliveries, was_handed, Legal, fixed, own, Rules, rows, roots, subscriptions, same, OwnState, Given, Entry, EventName, UnitName, Managed, Root, same_name-exact, Agrees, FilterIndex, IsSeat, ManagedState, is_marked, is_told, subscribed_at, TellsOf, managed_of, event_place, IsSwapped, find, moved_at, place_of, Board, EventRow, Unit}
use Rattle.df_tables.specs.Runs.{with_own}
use Rattle.df_tables.proofs.Finds.{find-moved}
use Rattle.df_tables.proofs.Booked.{no_fewer, same_managed, told_more}
use Rattle.df_tables.proofs.Order.{names-moved, same_length}
use Rattle.df_tables.proofs.Seats.{place_of-names}

-- after both journals all is the same but a unit's own state
pub record AreAlike (R : Rules) (s : List OwnState) (a : UnitName) (past later : List Entry) : Type 0 where
  pub others : (n : UnitName) → same a n ≡ false → own R s later n ≡ own R s past n
  pub handed : (n : UnitName) → deliveries R s later n ≡ deliveries R s past n
  pub subscribed : (n : UnitName) → subscriptions R s later n ≡ subscriptions R s past n
  pub parts : (event : EventName) → contents later event ≡ contents past event
  pub kept : (o : List ℕ) (n : ℕ) → fixed R s later o n ≡ fixed R s past o n

pub alike_itself : (R : Rules) (s : List OwnState) (a : UnitName) (past : List Entry) → AreAlike R s a past past
alike_itself R s a past = record { others = λ n h. refl; handed = λ n. refl; subscribed = λ n. refl; parts = λ e. refl; kept = λ o n. refl }

pub alike_back : (R : Rules) (s : List OwnState) (a : UnitName) (past later : List Entry) → AreAlike R s a past later → AreAlike R s a later past
alike_back R s a past later alike = record {
  others = λ n h. sym (alike.others n h);
  handed = λ n. sym (alike.handed n);
  subscribed = λ n. sym (alike.subscribed n);
  parts = λ e. sym (alike.parts e);
  kept = λ o n. sym (alike.kept o n);
}

pub alike_then : (R : Rules) (s : List OwnState) (a : UnitName) (past later last : List Entry) → AreAlike R s a past later → AreAlike R s a later last → AreAlike R s a past last
alike_then R s a past later last one two = record {
  others = λ n h. two.others n h ∙ one.others n h;
  handed = λ n. two.handed n ∙ one.handed n;
  subscribed = λ n. two.subscribed n ∙ one.subscribed n;
  parts = λ e. two.parts e ∙ one.parts e;
  kept = λ o n. two.kept o n ∙ one.kept o n;
}

-- the unit's own state after each of two such journals; it took as much in both
pub record AreOwned (R : Rules) (s : List OwnState) (a : UnitName) (past later : List Entry) (old st : OwnState) : Type 0 where
  pub alike : AreAlike R s a past later
  pub before : own R s past a ≡ Some old
  pub after : own R s later a ≡ Some st
  pub taken : st.given ≡ old.given

pub owned_back : (R : Rules) (s : List OwnState) (a : UnitName) (past later : List Entry) (old st : OwnState) → AreOwned R s a past later old st → AreOwned R s a later past st old
owned_back R s a past later old st owned = record { alike = alike_back R s a past later owned.alike; before = owned.after; after = owned.before; taken = sym owned.taken }

module _ (R : Rules) (s : List OwnState) (a : UnitName) (past later : List Entry) (old st : OwnState) (owned : AreOwned R s a past later old st) where
  seat_owned : (n : UnitName) (ds : List Given) (p : Option Unit) → IsSeat n (Some old) ds p → IsSeat n (Some st) ds (option_map (with_own st) p)
  seat_owned n ds None seat = absurd seat
  seat_owned n ds (Some u) seat = record {
    unit = seat.unit;
    own = refl;
    left = seat.left ∙ ap (λ (k : ℕ). drop k ds) (sym owned.taken);
    taken = let e = owned.taken in let h = seat.taken in omega (arith, e, h);
  }

  seat_alike : (n : UnitName) (p : Option Unit) → IsSeat n (own R s past n) (deliveries R s past n) p → IsSeat n (own R s later n) (deliveries R s later n) (if same a n then option_map (with_own st) p else p)
  seat_alike n p seat = subst (λ (ds : List Given). IsSeat n (own R s later n) ds (if same a n then option_map (with_own st) p else p)) (sym (owned.alike.handed n)) (by (same a n) refl)
    where
      by : (b : Bool) → same a n ≡ b → IsSeat n (own R s later n) (deliveries R s past n) (if b then option_map (with_own st) p else p)
      by false e = subst (λ (o : Option OwnState). IsSeat n o (deliveries R s past n) p) (sym (owned.alike.others n e)) seat
      by true e =
          let is : a ≡ n = same_name-exact a n e in
          let was : own R s past n ≡ Some old = subst (λ (m : UnitName). own R s past m ≡ Some old) is owned.before in
          let now : own R s later n ≡ Some st = subst (λ (m : UnitName). own R s later m ≡ Some st) is owned.after in
          subst (λ (o : Option OwnState). IsSeat n o (deliveries R s past n) (option_map (with_own st) p)) (sym now)
          (seat_owned n (deliveries R s past n) p (subst (λ (o : Option OwnState). IsSeat n o (deliveries R s past n) p) was seat))

  -- tables that agree with the one agree with the other, once the unit's row has the other own state
  pub agrees_alike : (us : List Unit) (evs : List EventRow) (x : FilterIndex) (m : ManagedState) → Legal R s later → Agrees R s past us evs x m → Agrees R s later (moved_at a (with_own st) us) evs x m
  agrees_alike us evs x m legal agree =
      let moved : List Unit = moved_at a (with_own st) us in
      let here : (n : UnitName) → place_of n moved ≡ place_of n us = λ n. place_of-names n us moved (names-moved a (with_own st) (λ u. refl) us) in record {
        legal = legal;
        seats = λ n. subst (λ (p : Option Unit). IsSeat n (own R s later n) (deliveries R s later n) p) (sym (find-moved a (with_own st) (λ u. refl) n us)) (seat_alike n (find n us) (agree.seats n));
        subscribed = λ n. ap (λ (p : Option ℕ). subscribed_at p x.enrolled) (here n) ∙ agree.subscribed n ∙ sym (owned.alike.subscribed n);
        marked = λ path ev k.
            ap (λ (p : Option ℕ). is_marked x.handed p (event_place ev evs) k) (here (Root path))
            ∙ agree.marked path ev k
            ∙ ap (λ (ds : List Given). was_handed ds ev k) (sym (owned.alike.handed (Root path)));
        parts = λ ev. agree.parts ev ∙ sym (owned.alike.parts ev);
        kept = λ o n. agree.kept o n ∙ sym (owned.alike.kept o n);
        told = λ o n t ev.
            ap (λ (p : Option ℕ). is_told m.told (event_place ev evs) p) (here (Managed o n t))
            ∙ agree.told o n t ev
            ∙ ap (λ (ds : List Given). was_handed ds ev n) (sym (owned.alike.handed (Managed o n t)));
      }

-- a board tells of the one what another told of the other, whose unit has the other own state
pub told_alike : (starts : List (Label × List Privilege)) (past later : List Entry) (l : LocalState) (old : OwnState) (b b' : Board) → AreOwned rows (roots starts) l.unit past later old l.own → Legal rows (roots starts) later → IsSwapped l b b' → TellsOf starts past b → TellsOf starts later b'
told_alike starts past later l old b b' owned legal swapped tells =
    let all = roots starts in
    let us : List Unit = moved_at l.unit (with_own l.own) b.rows.items in
    let size : length b'.rows.items ≡ length b.rows.items = ap length swapped.rows ∙ same_length us b.rows.items (names-moved l.unit (with_own l.own) (λ u. refl) b.rows.items) in
    told_more starts past later b b' swapped.managed swapped.told (omega (arith, size)) (no_fewer b.events b'.events swapped.events) tells
    (subst (λ (vs : List Unit). Agrees rows all later vs b'.events b'.index (managed_of b')) (sym swapped.rows)
    (subst (λ (evs : List EventRow). Agrees rows all later us evs b'.index (managed_of b')) (sym swapped.events)
    (subst (λ (x : FilterIndex). Agrees rows all later us b.events x (managed_of b')) (sym swapped.index)
    (subst (λ (m : ManagedState). Agrees rows all later us b.events b.index m) (sym (same_managed b b' swapped.managed swapped.told))
    (agrees_alike rows all l.unit past later old l.own owned b.rows.items b.events b.index (managed_of b) legal tells.agrees)))))
