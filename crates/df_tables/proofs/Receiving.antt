-- The units to which a commit is handed are those of its receivers' rows and those that come by it.
use Rattle.df_tables.proofs.Names.{◌≡◌, ◌↔◌, ℕ, ◌==◌, ◌||◌, Bool, true, false, not, if◌then◌else◌, List, [], ◌∷◌, ◌++◌, get_or, length, map, slice_get, Option, Some, None, refl, ap, sym, subst, ◌∙◌, arith, eq-eqb, ◌&&◌, nat_lt, option_to_list, Contains, list_any, IsStrictlySortedBy, eqb-true, le-ltb, lt-ltb, ne_eqb, append-nil, list_any-append, get_or_from_slice_get, slice_get-get_or, slice_get_within, Pair, pair_cmp, IsReceiver, AreChosen, instance_cmp, AreNumbered, Instance, ManagedSubscription, Label, Privilege, apply, Part, matches, contents, deliveries, deliveries_instance, instance_news, was_handed, fixed, is_given, rows, roots, same, Fixed, OwnState, is_nil, Commit, Given, Entry, Emitted, UnitName, Managed, Root, same_name-exact, Agrees, AreApart, FilterIndex, rows_in, AreReceivers, IsBoard, IsOpenedBoard, IsReady, is_brought, managed_by, receivers_of, births_by, name_at, names_at, pairs_by, event_place, given_to, pairs_of, inputs, find, names_of, parts_of, place_of, Board, Ready, EventRow, Unit, or-false, not-not, or_from, false_from_ne_true}
use Rattle.std.specs.Prelude.{is_some}
use Rattle.std.proofs.lemmas.List.{length-append}
use Rattle.df_tables.proofs.Boards.{whole_opened}
use Rattle.df_tables.proofs.Booked.{brought, kept_opened, place_in}
use Rattle.df_tables.proofs.Brought.{none_pass}
use Rattle.df_tables.proofs.Calls.{births_unplaced}
use Rattle.df_tables.proofs.Called.{row_if}
use Rattle.df_tables.proofs.Committed.{news_called, undelivered}
use Rattle.df_tables.proofs.Fresh.{AreUnplaced}
use Rattle.df_tables.proofs.Instances.{born_called, born_plain}
use Rattle.df_tables.proofs.Seats.{absent, passes_at, both_ways}
use Rattle.df_tables.proofs.Steps.{delivered_at, news_of, none_news}

-- a list with more behind it is longer
longer : {A : Type 0} (xs ys : List A) → nat_lt (length xs) (length (xs ++ ys)) ≡ not (is_nil ys)
longer {A} xs [] = ap (λ (l : List A). nat_lt (length xs) (length l)) (append-nil xs) ∙ le-ltb (length xs) (length xs) (omega arith)
longer xs (y ∷ ys) = let size = length-append xs (y ∷ ys) in lt-ltb (length xs) (length (xs ++ y ∷ ys)) (omega (arith, size))

mapped_nil : {A B : Type 0} (f : A → B) (xs : List A) → is_nil (map f xs) ≡ is_nil xs
mapped_nil f [] = refl
mapped_nil f (x ∷ xs) = refl

-- the names of rows at places, and of rows that come
module _ (us : List Unit) (apart : AreApart us) (n : UnitName) where
  abbrev is_it : UnitName → Bool
  is_it m = same m n

  -- the row at a place is the one of its unit
  placed : (p : ℕ) (u : Unit) → slice_get us p ≡ Some u → is_it u.local.unit ≡ true → place_of n us ≡ Some p
  placed p u at is =
      let name : u.local.unit ≡ n = same_name-exact u.local.unit n is in
      let here : get_or us p u ≡ u = get_or_from_slice_get us p u u at in
      subst (λ (m : UnitName). place_of m us ≡ Some p) name
      (subst (λ (v : Unit). place_of v.local.unit us ≡ Some p) here (apart p u (slice_get_within us p u at)))

  one_place : (q : ℕ) → place_of n us ≡ Some q → (p : ℕ) → list_any is_it (name_at us p) ≡ (p == q)
  one_place q place p = go (slice_get us p) refl
    where
      go : (o : Option Unit) → slice_get us p ≡ o → list_any is_it (names_of (option_to_list o)) ≡ (p == q)
      go None none = sym (ne_eqb p q (λ e. elsewhere e us refl))
        where
          elsewhere : p ≡ q → (vs : List Unit) → us ≡ vs → ⊥
          elsewhere e [] is = let z : place_of n [] ≡ Some q = ap (place_of n) (sym is) ∙ place in (let w : ⊥ = cc in w)
          elsewhere e (v ∷ vs) is =
              let z : None ≡ Some (get_or us q v) = sym none ∙ ap (slice_get us) e ∙ slice_get-get_or us q v (place_in n us q place) in
              (let w : ⊥ = cc in w)
      go (Some u) at = or-false (is_it u.local.unit) ∙ both_ways (is_it u.local.unit) (p == q) forth back
        where
          forth : is_it u.local.unit ≡ true → (p == q) ≡ true
          forth is = let z : Some p ≡ Some q = sym (placed p u at is) ∙ place in eq-eqb p q (let y : p ≡ q = cc in y)

          back : (p == q) ≡ true → is_it u.local.unit ≡ true
          back e =
              let here : get_or us p u ≡ u = get_or_from_slice_get us p u u at in
              let there : get_or us q u ≡ u = ap (λ (i : ℕ). get_or us i u) (sym (eqb-true p q e)) ∙ here in
              subst (λ (v : Unit). is_it v.local.unit ≡ true) there (passes_at (λ (v : Unit). is_it v.local.unit) us q u place)

  any_placed : (q : ℕ) → place_of n us ≡ Some q → (ps : List Pair) → list_any is_it (names_at us ps) ≡ list_any (λ p. p.0 == q) ps
  any_placed q place [] = refl
  any_placed q place (p ∷ ps) =
      list_any-append is_it (name_at us p.0) (names_at us ps)
      ∙ ap (λ (b : Bool). b || list_any is_it (names_at us ps)) (one_place q place p.0)
      ∙ ap (λ (b : Bool). (p.0 == q) || b) (any_placed q place ps)

  no_place : place_of n us ≡ None → (p : ℕ) → list_any is_it (name_at us p) ≡ false
  no_place none p = go (slice_get us p) refl
    where
      go : (o : Option Unit) → slice_get us p ≡ o → list_any is_it (names_of (option_to_list o)) ≡ false
      go None at = refl
      go (Some u) at =
          or_from _ _ (false_from_ne_true (is_it u.local.unit) (λ e. let z : None ≡ Some p = sym none ∙ placed p u at e in (let w : ⊥ = cc in w))) refl

  any_unplaced : place_of n us ≡ None → (ps : List Pair) → list_any is_it (names_at us ps) ≡ false
  any_unplaced none [] = refl
  any_unplaced none (p ∷ ps) =
      list_any-append is_it (name_at us p.0) (names_at us ps)
      ∙ ap (λ (b : Bool). b || list_any is_it (names_at us ps)) (no_place none p.0)
      ∙ any_unplaced none ps

  any_found : (bs : List Unit) → list_any is_it (names_of bs) ≡ is_some (find n bs)
  any_found [] = refl
  any_found (b ∷ bs) =
      elim (is_it b.local.unit) as (λ c. (c || list_any is_it (names_of bs)) ≡ is_some (if c then Some b else find n bs))
      [ true ↦ refl | false ↦ any_found bs ]

  none_come : (q : ℕ) → place_of n us ≡ Some q → (bs : List Unit) → AreUnplaced us bs → list_any is_it (names_of bs) ≡ false
  none_come q place [] none = refl
  none_come q place (b ∷ bs) none = or_from (is_it b.local.unit) _ (false_from_ne_true _ other) (none_come q place bs none.1)
    where
      other : is_it b.local.unit ≡ true → ⊥
      other e =
          let gone : place_of n us ≡ None = subst (λ (m : UnitName). place_of m us ≡ None) (same_name-exact b.local.unit n e) none.0 in
          let z : None ≡ Some q = sym gone ∙ place in cc

module _ (starts : List (Label × List Privilege)) (past : List Entry) (us : List Unit) (evs : List EventRow) (x : FilterIndex) (managed : List ManagedSubscription) (handed : List (List ℕ))
    (agree : Agrees rows (roots starts) past us evs x (managed_by managed handed)) (numbered : AreNumbered managed) (apart : AreApart us)
    (k : Commit) (j : ℕ) (after : List Part) (there : event_place k.event evs ≡ Some j) (is : after ≡ apply k.edit (parts_of k.event evs))
    (ps : List Pair) (labels : List Label) (inputs_are : labels ≡ inputs us) (sorted : IsStrictlySortedBy pair_cmp ps)
    (due : (p : Pair) → Contains ps p ↔ IsReceiver matches labels x j after k.edit p)
    (xs : List Instance) (up : IsStrictlySortedBy instance_cmp xs) (are : AreChosen managed (contents past k.event) k.edit xs) where
  abbrev s : List OwnState
  s = roots starts

  abbrev qs : List Pair
  qs = pairs_by us managed handed j xs

  abbrev bs : List Unit
  bs = births_by us managed k.event after xs

  abbrev brings : UnitName → List Given
  brings n = news_of rows s past n (Some k)

  now_is : after ≡ apply k.edit (contents past k.event)
  now_is = is ∙ ap (apply k.edit) (agree.parts k.event)

  -- a unit that has a row is brought what its receivers bring
  at_place : (n : UnitName) (q : ℕ) → place_of n us ≡ Some q → list_any (λ p. p.0 == q) (ps ++ qs) ≡ not (is_nil (brings n))
  at_place n q place =
      let news = brought brings k.event after (ps ++ qs) us
      (news_called starts past us evs x managed handed agree numbered apart k j after there is ps labels inputs_are sorted due xs up are) n q place in
      sym (not-not (list_any (λ p. p.0 == q) (ps ++ qs)))
      ∙ ap not (none_pass (λ (p : Pair). p.0 == q) (ps ++ qs) ∙ sym (mapped_nil (given_to k.event after news.0) (pairs_of q (ps ++ qs))))
      ∙ ap (λ (l : List Given). not (is_nil l)) (sym news.1)

  -- one that has none is brought what comes with its row
  comes : (n : UnitName) → place_of n us ≡ None → is_some (find n bs) ≡ not (is_nil (brings n))
  unfolding news_of
  comes (Root path) none =
      ap (λ (o : Option Unit). is_some o) (born_plain starts past us evs x managed handed agree numbered k j there xs up are after now_is path none)
      ∙ sym (ap (λ (l : List Given). not (is_nil l)) (none_news rows s past path (Some k) (absent rows s past us (Root path) agree.seats none)))
  comes (Managed o i t) none =
      ap (λ (w : Option Unit). is_some w) (born_called starts past us evs x managed handed agree numbered k j there xs up are after now_is o i t none)
      ∙ by (fixed rows s past o i)
    where
      ds : List Given
      ds = deliveries_instance rows s past o i t

      nothing : ds ≡ []
      nothing = undelivered starts past us evs x managed handed agree numbered apart k j after there is ps labels inputs_are sorted due xs up are (Managed o i t)
          (absent rows s past us (Managed o i t) agree.seats none)

      cases : (d : Given) (u : Unit) (b : Bool) → is_some (if b then Some u else None) ≡ not (is_nil (if b && not (was_handed ds k.event i) then d ∷ [] else []))
      cases d u false = refl
      cases d u true = sym (ap (λ (l : List Given). not (is_nil (if not (was_handed l k.event i) then d ∷ [] else []))) nothing)

      by : (f : Option Fixed) → is_some (row_if starts past k after now_is o i t f) ≡ not (is_nil (instance_news f i t ds past (Some k)))
      by None = refl
      by (Some f) = cases _ _ (is_given (Some f) t past (Some k))

  pub receivers_are : (n : UnitName) → list_any (λ m. same m n) (names_at us (ps ++ qs) ++ names_of bs) ≡ is_brought s past k n
  receivers_are n =
      list_any-append (λ m. same m n) (names_at us (ps ++ qs)) (names_of bs)
      ∙ by (place_of n us) refl
      ∙ sym (ap (λ (ds : List Given). nat_lt (length (deliveries rows s past n)) (length ds)) (delivered_at rows s past (Emitted k) n)
      ∙ longer (deliveries rows s past n) (brings n))
    where
      by : (o : Option ℕ) → place_of n us ≡ o → (list_any (λ m. same m n) (names_at us (ps ++ qs)) || list_any (λ m. same m n) (names_of bs)) ≡ not (is_nil (brings n))
      by (Some q) place =
          ap (λ (b : Bool). list_any (λ m. same m n) (names_at us (ps ++ qs)) || b) (none_come us apart n q place bs (births_unplaced managed numbered us k.event after xs))
          ∙ or-false (list_any (λ m. same m n) (names_at us (ps ++ qs)))
          ∙ any_placed us apart n q place (ps ++ qs)
          ∙ at_place n q place
      by None none =
          ap (λ (b : Bool). b || list_any (λ m. same m n) (names_of bs)) (any_unplaced us apart n none (ps ++ qs))
          ∙ any_found us apart n bs
          ∙ comes n none

-- what is made ready tells the receivers
pub ready_receivers : (k : Commit) (old opened : Board) (ready : Ready) (names : List UnitName) → IsBoard old → IsOpenedBoard k.event old opened → IsReady k opened ready
    → names ≡ names_at opened.rows.items (receivers_of ready) ++ names_of (rows_in ready.called.born.items) → AreReceivers k names old
ready_receivers k old opened ready names board opening made names_are starts past tells n =
    let us = opened.rows.items in
    let before = kept_opened k.event old opened board.whole opening starts past tells in
    let there = whole_opened k.event old opened opening board.whole in
    let xs = made.called.instances in
    let is : ready.after ≡ apply k.edit (contents past k.event) = made.after ∙ ap (apply k.edit) (before.agrees.parts k.event) in
    ap (list_any (λ m. same m n))
    (names_are
    ∙ ap (λ (rs : List Pair). names_at us rs ++ names_of (rows_in ready.called.born.items)) (made.receivers ∙ ap (λ (qs : List Pair). ready.to ++ qs) made.called.pairs)
    ∙ ap (λ (bs : List Unit). names_at us (ready.to ++ pairs_by us opened.managed opened.marks.handed ready.place xs) ++ names_of bs) made.called.born)
    ∙ receivers_are starts past us opened.events opened.index opened.managed opened.marks.handed before.agrees before.numbered there.apart k ready.place ready.after made.place made.after
    ready.to (inputs us) refl made.ascending made.due xs made.called.ascending (made.called.chosen (contents past k.event) is) n
