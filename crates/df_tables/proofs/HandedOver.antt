-- After a commit that was handed to all to whom it is to be handed the tables tell of it.
use Rattle.df_tables.proofs.Names.{◌≡◌, ◌↔◌, ℕ, ◌+◌, ◌≤◌, ◌==◌, ◌&&◌, ◌||◌, All, false, List, ◌∷◌, ◌++◌, length, map, Option, Some, None, refl, ap, sym, subst, ◌∙◌, arith, length-append, length-map, All-append, append-nil, Clause, Contains, IsReceiver, Pair, AreChosen, has_place, is_ready, AreNumbered, Instance, ManagedSubscription, Label, Privilege, apply, Part, contents, answer, own, rows, roots, OwnState, subscribes, Call, Commit, Given, Effect, Entry, Done, Emitted, UnitName, Reply, Agrees, FilterIndex, IsWhole, MakesNoManaged, MakesNoUnit, all_new, enrols, rows_in, IsBooked, IsEmitted, IsHandedBoard, IsBoard, AreMarked, IsMarkedBoard, IsReady, IsShutBoard, MakesClosing, TakesClosed, TellsOf, answer_from, managed_by, receivers_of, row_by, births_by, pairs_by, places_by, IsOpened, IsAnsweredAt, IsCalm, IsNews, TellsAt, modify, with_news, inputs, closed_by, shut_row, shut_where, moved_at, moved_row, names_of, place_of, Board, EventRow, Ready, Unit, Bool, Result, Ok, Err, IfOk, OnErr, NoMemory}
use Rattle.df_index.specs.Filter.{matches}
use Rattle.df_index.specs.IndexState as index
use Rattle.df_instances.specs.Marks as marks
use Rattle.df_local.specs.Locally.{TellsEffect, closing, made_where}
use Rattle.df_local.specs.declared.close.Close.{Close}
use Rattle.df_tables.proofs.Alone.{IsBesideRows}
use Rattle.df_tables.proofs.Places.{at_some}
use Rattle.df_tables.proofs.Boards.{board_shut, board_steady, far_unbooked, inputs-modify, modify-moved, names-modify, receivers_within, whole_opened}
use Rattle.df_tables.proofs.Booked.{booked_plain, found, kept_opened, kept_renewed, makes, modify_same, place_in, plain_else, right, row_is}
use Rattle.df_tables.proofs.Built.{childless_makes_none, unmanaged_makes_none}
use Rattle.df_tables.proofs.Calls.{IsIn, pairs_within}
use Rattle.df_tables.proofs.Closes.{called_like, closed_is, closes_only, map-modify, modify-append, news_modify, shut_is, takes_none}
use Rattle.df_tables.proofs.Each.{length-modify}
use Rattle.df_tables.proofs.Instances.{births_come}
use Rattle.df_tables.proofs.Committed.{agrees_called, agrees_told, news_called, within_called}
use Rattle.df_tables.proofs.Order.{names-map}
use Rattle.df_tables.proofs.Seats.{place_of-names}
use Rattle.df_tables.proofs.Steps.{news_of}

-- each to whom a commit is to be handed is one of the rows
pub ready_within : (k : Commit) (b : Board) (ready : Ready) → IsWhole b.rows.items b.events b.index → IsReady k b ready → All (IsIn b.rows.items) (receivers_of ready)
ready_within k b ready whole is =
    subst (All (IsIn b.rows.items)) (sym is.receivers)
    (All-append (IsIn b.rows.items) ready.to ready.called.pairs.items (receivers_within k b ready whole is)
    (subst (All (IsIn b.rows.items)) (sym is.called.pairs) (pairs_within b.rows.items b.managed b.marks.handed ready.place is.called.instances)))

-- what the commit of an event at a place leaves, once it was made ready and is marked
module _ (k : Commit) (old new : Board) (whole : IsWhole old.rows.items old.events old.index) (marked : IsMarkedBoard k old new)
    (starts : List (Label × List Privilege)) (past : List Entry) (tells : TellsOf starts past old) where
  abbrev opened : Board
  opened = marked.opened

  abbrev ready : Ready
  ready = marked.ready

  abbrev made : IsReady k opened ready
  made = marked.made

  left : AreMarked k ready opened.managed new.managed opened.marks new.marks opened.index new.index opened.events new.events
  left = marked.left

  abbrev us : List Unit
  us = opened.rows.items

  abbrev after : List Part
  after = ready.after

  abbrev xs : List Instance
  xs = made.called.instances

  abbrev qs : List Pair
  qs = pairs_by us opened.managed opened.marks.handed ready.place xs

  abbrev bs : List Unit
  bs = births_by us opened.managed k.event after xs

  -- what the commit brings to each row
  abbrev pub brings : Unit → List Given
  brings u = news_of rows (roots starts) past u.local.unit (Some k)

  -- the tables tell what they told once the event is opened
  pub before : TellsOf starts past opened
  before = kept_opened k.event old opened whole marked.opening starts past tells

  there : IsWhole us opened.events opened.index
  there = whole_opened k.event old opened marked.opening whole

  is : after ≡ apply k.edit (contents past k.event)
  is = made.after ∙ ap (apply k.edit) (before.agrees.parts k.event)

  are : AreChosen opened.managed (contents past k.event) k.edit xs
  are = made.called.chosen (contents past k.event) is

  told : (e q : ℕ) → marks.was_handed new.marks.handed e q ≡ (marks.was_handed opened.marks.handed e q || ((e == ready.place) && has_place (places_by (length us) qs bs) q))
  told e q =
      let b = marks.was_handed opened.marks.handed e q in
      left.told e q
      ∙ ap (λ (r : Option (ℕ × List ℕ)). b || is_ready r e q) made.marked
      ∙ ap (λ (ps : List Pair). b || ((e == ready.place) && has_place (places_by (length us) ps (rows_in ready.called.born.items)) q)) made.called.pairs
      ∙ ap (λ (l : List Unit). b || ((e == ready.place) && has_place (places_by (length us) qs l) q)) made.called.born

  pub news : IsNews brings k.event after (receivers_of ready) us
  news =
      subst (λ (ps : List Pair). IsNews brings k.event after ps us) (sym (made.receivers ∙ ap (λ (ps : List Pair). ready.to ++ ps) made.called.pairs))
      (news_called starts past us opened.events opened.index opened.managed opened.marks.handed before.agrees before.numbered there.apart k ready.place after made.place made.after
      ready.to (inputs us) refl made.ascending made.due xs made.called.ascending are)

  -- all who come to exist have their rows behind the others
  pub all_come : (vs : List Unit) → names_of vs ≡ names_of us → all_new (rows_in ready.called.born.items) vs ≡ vs ++ bs
  all_come vs named =
      ap (λ (l : List Unit). all_new l vs) made.called.born
      ∙ births_come starts past us opened.events opened.index opened.managed opened.marks.handed before.agrees before.numbered k ready.place made.place xs made.called.ascending are after is
      vs named

  -- who has no row is marked as handed nothing
  unmarked : (event : ℕ) (p : Pair) → length us ≤ p.0 → index.was_handed new.index.handed event p ≡ false
  unmarked = far_unbooked ready.to (length us) ready.place opened.index.handed new.index.handed (receivers_within k opened ready there made) left.handed there.seated

  -- they agree with an emitted entry
  pub agrees_here : Agrees rows (roots starts) (Emitted k ∷ past) (map (with_news brings) us ++ bs) new.events new.index (managed_by opened.managed new.marks.handed)
  agrees_here =
      agrees_told starts past us opened.events opened.index opened.managed opened.marks.handed before.agrees before.numbered there.apart k ready.place after made.place made.after
      ready.to (inputs us) refl made.ascending made.due xs made.called.ascending are new.events new.index new.marks.handed before.within left.parts left.places left.size left.enrolled left.handed told there.enrolled unmarked

  -- they agree with a call's
  pub agrees_done : (a : UnitName) (c : Call) (r : Reply) → MakesNoUnit rows c r → answer rows (roots starts) past a c ≡ (r, Effect.Commit k) →
      MakesNoManaged rows c r → ((st : OwnState) → own rows (roots starts) past a ≡ Some st → subscribes st c r ≡ None) →
      Agrees rows (roots starts) (Done a c r (Effect.Commit k) ∷ past) (moved_at a (moved_row rows c r (Effect.Commit k)) (map (with_news brings) us) ++ bs) new.events new.index (managed_by opened.managed new.marks.handed)
  agrees_done a c r childless right unfixed makes =
      agrees_called starts past us opened.events opened.index opened.managed opened.marks.handed before.agrees before.numbered there.apart k ready.place after made.place made.after
      ready.to (inputs us) refl made.ascending made.due xs made.called.ascending are new.events new.index new.marks.handed before.within left.parts left.places left.size left.enrolled left.handed told
      a c r childless right unfixed makes there.enrolled unmarked

  -- where they agree with an entry, the tables tell of it
  pub told_after : (now : List Entry) → length new.rows.items ≡ length us + length bs →
      Agrees rows (roots starts) now new.rows.items new.events new.index (managed_by opened.managed new.marks.handed) → TellsOf starts now new
  told_after now size agrees = record {
    agrees = subst (λ (m : List ManagedSubscription). Agrees rows (roots starts) now new.rows.items new.events new.index (managed_by m new.marks.handed)) (sym left.managed) agrees;
    numbered = subst AreNumbered (sym left.managed) before.numbered;
    within = within_called starts past us opened.events opened.index opened.managed opened.marks.handed
        before.agrees before.numbered there.apart k ready.place after made.place made.after ready.to (inputs us) refl
        made.ascending made.due xs made.called.ascending are new.events new.index new.marks.handed before.within left.parts
        left.places left.size left.enrolled left.handed told new.rows.items size;
  }

  -- and of a call that closes a handle of the unit at a place
  pub told_closed : (a : UnitName) (q h : ℕ) (c : Call) (r : Reply) → place_of a old.rows.items ≡ Some q → closed_by c r ≡ Some h →
      IsAnsweredAt q c r (Effect.Commit k) old.rows.items → new.rows.items ≡ modify q (shut_row h) (map (with_news brings) us) ++ bs →
      TellsOf starts (Done a c r (Effect.Commit k) ∷ past) new
  told_closed a q h c r place closes answered rows_are =
      let now : List Entry = Done a c r (Effect.Commit k) ∷ past in
      let F = moved_row rows c r (Effect.Commit k) in
      let vs : List Unit = map (with_news brings) us in
      let also : place_of a vs ≡ Some q = place_of-names a us vs (names-map (with_news brings) (λ u. refl) us) ∙ ap (place_of a) marked.opening.rows ∙ place in
      let only = closes_only c r h closes in
      let moved : new.rows.items ≡ moved_at a F vs ++ bs =
      rows_are
      ∙ ap (λ (l : List Unit). l ++ bs)
      (modify_same (shut_row h) F (shut_is c r h (Effect.Commit k) (λ l. refl) closes) q vs ∙ modify-moved a vs q F also) in
      let all = ap length rows_are in
      let size = length-append (modify q (shut_row h) vs) bs in
      told_after now (omega (arith, all, size, length-modify q (shut_row h) vs, length-map us (with_news brings)))
      (subst (λ (l : List Unit). Agrees rows (roots starts) now l new.events new.index (managed_by opened.managed new.marks.handed)) (sym moved)
      (agrees_done a c r (childless_makes_none c r only.childless) (right starts past old tells a q place c r (Effect.Commit k) answered)
      (unmanaged_makes_none c r only.unmanaged)
      (λ st owned. makes starts past old tells a q place c r (Effect.Commit k) answered st owned ∙ only.made)))

  -- and of an emitted commit
  pub told_emitted : new.rows.items ≡ all_new (rows_in ready.called.born.items) (map (with_news brings) us) → TellsOf starts (Emitted k ∷ past) new
  told_emitted come =
      let vs : List Unit = map (with_news brings) us in
      let rows_are : new.rows.items ≡ vs ++ bs = come ∙ all_come vs (names-map (with_news brings) (λ u. refl) us) in
      let all = ap length rows_are in
      told_after (Emitted k ∷ past) (omega (arith, all, length-append vs bs, length-map us (with_news brings)))
      (subst (λ (l : List Unit). Agrees rows (roots starts) (Emitted k ∷ past) l new.events new.index (managed_by opened.managed new.marks.handed)) (sym rows_are)
      agrees_here)

-- after an emitted commit
pub emitted : (k : Commit) (old new : Board) → IsWhole old.rows.items old.events old.index → IsHandedBoard k old new → IsEmitted k old new
emitted k old new whole done starts past tells =
    let m = done.marked in
    told_emitted k old new whole m starts past tells
    (done.rows (brings k old new whole m starts past tells) (news k old new whole m starts past tells))

-- after a commit of the unit at a place, by a call that closes a handle behind it
pub booked_commit : (a : UnitName) (q h : ℕ) (c : Call) (r : Reply) (k : Commit) (old mid new : Board) → place_of a old.rows.items ≡ Some q →
    closed_by c r ≡ Some h → IsAnsweredAt q c r (Effect.Commit k) old.rows.items → IsWhole old.rows.items old.events old.index →
    IsHandedBoard k old mid → IsShutBoard q h mid new → IsBooked a c r (Effect.Commit k) old new
booked_commit a q h c r k old mid new place closes answered whole done shut starts past tells =
    let with_rows : Board = record mid { rows = new.rows } in
    let d = done.marked in
    let m : IsMarkedBoard k old with_rows = record { opened = d.opened; ready = d.ready; opening = d.opening; made = d.made; left = d.left } in
    let us = d.opened.rows.items in
    let g = brings k old with_rows whole m starts past tells in
    let vs : List Unit = map (with_news g) us in
    let named : names_of vs ≡ names_of us = names-map (with_news g) (λ u. refl) us in
    kept_renewed with_rows new (record { rows = refl; roll = shut.roll; events = shut.events; index = shut.index; managed = shut.managed; told = shut.told })
    starts (Done a c r (Effect.Commit k) ∷ past)
    (told_closed k old with_rows whole m starts past tells a q h c r place closes answered
    (shut.rows
    ∙ ap (modify q (shut_row h)) (done.rows g (news k old with_rows whole m starts past tells) ∙ all_come k old with_rows whole m starts past tells vs named)
    ∙ modify-append q (shut_row h) vs (bs k old with_rows whole m starts past tells)
    (place_in a vs q (place_of-names a us vs named ∙ ap (place_of a) d.opening.rows ∙ place))))

-- the board that was opened, with the rows before a handle was closed
abbrev unshut : Board → Board → Board
unshut old opened = record opened { rows = old.rows }

-- what was made ready once the handle was closed is so with those rows
made_unshut : (k : Commit) (q h : ℕ) (old opened : Board) (ready : Ready) → opened.rows.items ≡ modify q (shut_row h) old.rows.items →
    IsReady k opened ready → IsReady k (unshut old opened) ready
made_unshut k q h old opened ready shut made =
    let us = old.rows.items in
    let named : names_of opened.rows.items ≡ names_of us = ap names_of shut ∙ names-modify (shut_row h) (λ u. refl) q us in
    let read : inputs opened.rows.items ≡ inputs us = ap inputs shut ∙ inputs-modify (shut_row h) q us (λ d i. refl) in
    let size : length opened.rows.items ≡ length us = ap length shut ∙ length-modify q (shut_row h) us in record {
      place = made.place;
      after = made.after;
      ascending = made.ascending;
      due = λ p. subst (λ (ls : List Label). Contains ready.to p ↔ IsReceiver matches ls opened.index ready.place ready.after k.edit p) read (made.due p);
      waits = made.waits;
      called = called_like opened.rows.items us named opened.managed opened.marks.handed k ready.place ready.after ready.called made.called;
      receivers = made.receivers;
      marked = made.marked ∙ ap (λ (n : ℕ). Some (ready.place, places_by n ready.called.pairs.items (rows_in ready.called.born.items))) size;
    }

-- a handle that was closed before it changes nothing of what is marked
marked_unshut : (k : Commit) (q h : ℕ) (old mid new : Board) → IsShutBoard q h old mid → IsMarkedBoard k mid new → IsMarkedBoard k old new
marked_unshut k q h old mid new shut m =
    let o = m.opening in record {
      opened = unshut old m.opened;
      ready = m.ready;
      opening = record {
        rows = refl;
        roll = o.roll ∙ shut.roll;
        enrolled = o.enrolled ∙ ap (λ (x : FilterIndex). x.enrolled) shut.index;
        handed = o.handed ∙ ap (λ (x : FilterIndex). x.handed) shut.index;
        managed = o.managed ∙ shut.managed;
        told = o.told ∙ shut.told;
        opened = subst (λ (es : List EventRow). IsOpened k.event es m.opened.events) shut.events o.opened;
      };
      made = made_unshut k q h old m.opened m.ready (o.rows ∙ shut.rows) m.made;
      left = m.left;
    }

-- after a commit of the unit at a place, by a call that closed a handle before it
pub booked_taken : (a : UnitName) (q h : ℕ) (c : Call) (r : Reply) (k : Commit) (old mid new : Board) → place_of a old.rows.items ≡ Some q →
    closed_by c r ≡ Some h → IsAnsweredAt q c r (Effect.Commit k) old.rows.items → IsWhole old.rows.items old.events old.index →
    IsShutBoard q h old mid → IsHandedBoard k mid new → IsBooked a c r (Effect.Commit k) old new
unfolding marked_unshut
booked_taken a q h c r k old mid new place closes answered whole shut done starts past tells =
    let us = old.rows.items in
    let ready = done.marked.ready in
    let is : done.marked.opened.rows.items ≡ modify q (shut_row h) us = done.marked.opening.rows ∙ shut.rows in
    let m = marked_unshut k q h old mid new shut done.marked in
    let g = brings k old new whole m starts past tells in
    let vs : List Unit = map (with_news g) us in
    told_closed k old new whole m starts past tells a q h c r place closes answered
    (done.rows g (subst (IsNews g k.event ready.after (receivers_of ready)) (sym is)
    (news_modify g k.event ready.after (receivers_of ready) us q (shut_row h) (λ u. refl) (λ u. refl) (news k old new whole m starts past tells)))
    ∙ ap (λ (l : List Unit). all_new (rows_in ready.called.born.items) (map (with_news g) l)) is
    ∙ ap (all_new (rows_in ready.called.born.items)) (map-modify (with_news g) (shut_row h) (λ u. refl) q us)
    ∙ all_come k old new whole m starts past tells (modify q (shut_row h) vs)
    (names-modify (shut_row h) (λ u. refl) q vs ∙ names-map (with_news g) (λ u. refl) us))

-- after one without a commit
pub booked_shut : (a : UnitName) (q h : ℕ) (c : Call) (r : Reply) (f : Effect) (old new : Board) → place_of a old.rows.items ≡ Some q →
    closed_by c r ≡ Some h → IsAnsweredAt q c r f old.rows.items → ((k : Commit) → f ≡ Effect.Commit k → ⊥) →
    IsWhole old.rows.items old.events old.index → IsShutBoard q h old new → IsBooked a c r f old new
booked_shut a q h c r f old new place closes answered never whole shut =
    let only = closes_only c r h closes in
    let row = found a old.rows.items q place in
    let still = takes_none row.0.local row.0.line.left c r h f closes (row.2 c r f answered) in
    booked_plain a q c r f old new place only.unmanaged only.childless answered (plain_else f never) whole
    (record {
      rows = shut.rows ∙ modify_same (shut_row h) (moved_row rows c r f) (shut_is c r h f still closes) q old.rows.items;
      roll = shut.roll;
      events = shut.events;
      enrolled = ap (λ (x : FilterIndex). x.enrolled) shut.index ∙ sym (append-nil old.index.enrolled)
          ∙ sym (ap (λ (m : Option (ℕ × List Clause)). old.index.enrolled ++ enrols (Some q) m) only.made);
      handed = ap (λ (x : FilterIndex). x.handed) shut.index;
      told = shut.told;
    })
    shut.managed

-- where a handle is closed or nothing is done, the tables fit each other
board_taken : (k h : ℕ) (made : Option Effect) (old new : Board) → IsBoard old → IsBesideRows old new →
    new.rows.items ≡ shut_where made k h old.rows.items → IsBoard new
board_taken k h None old new board beside e =
    board_steady old new board (ap names_of e) (subst (All IsCalm) (sym e) board.whole.calm) (ap inputs e) beside.seats beside.events beside.index beside.labels beside.stale
board_taken k h (Some f) old new board beside e =
    board_shut k h old new board
    (record { rows = e; roll = beside.seats; events = beside.events; index = beside.index; managed = beside.managed; told = beside.told }) beside.labels beside.stale

-- and so where memory was wanting
pub board_taken_either : (k h : ℕ) (old new : Board) (f : Effect) → IsBoard old → IsBesideRows old new → (r : Result Bool NoMemory) →
    IfOk r (λ is. new.rows.items ≡ shut_where (made_where is f) k h old.rows.items) → OnErr r (new.rows.items ≡ old.rows.items) → IsBoard new
board_taken_either k h old new f board beside (Ok is) moved same = board_taken k h (made_where is f) old new board beside moved
board_taken_either k h old new f board beside (Err refused) moved same = board_taken k h None old new board beside same

-- a publish or a release by the unit at a place, whose handle it closes
module _ (a : UnitName) (k : ℕ) (how : Close) (h : ℕ) (old mid : Board) (here : place_of a old.rows.items ≡ Some k) (board : IsBoard old) where
  -- the answer of the row there
  told_here : (made : Option Effect) → TellsAt k (closing how h) made old.rows.items → TellsEffect (answer_from (row_by old (Some k)) (closing how h)) made
  told_here made tells =
      let d = (found a old.rows.items k here).0 in
      subst (λ (o : Option Unit). TellsEffect (answer_from o (closing how h)) made)
      (sym (row_is old a (Some k) here ∙ (at_some a old.rows.items k d here).0)) (tells d (place_in a old.rows.items k here))

  pub closing_taken : (c : Commit) (new : Board) → TakesClosed k (closing how h) h (Some (Effect.Commit c)) old mid → IsHandedBoard c mid new →
      MakesClosing (Some k) (closing how h) (Some (Effect.Commit c)) old new
  closing_taken c new is done = record {
    answer = told_here (Some (Effect.Commit c)) is.answered;
    booked = λ actor at. booked_taken actor k h (closing how h) Reply.Ok c old mid new at (closed_is how h) is.answered board.whole is.moved done;
  }

  pub closing_made : (made : Option Effect) → ((c : Commit) → made ≡ Some (Effect.Commit c) → ⊥) → TakesClosed k (closing how h) h made old mid →
      MakesClosing (Some k) (closing how h) made old mid
  closing_made None never is = (told_here None is.answered, is.moved)
  closing_made (Some f) never is = record {
    answer = told_here (Some f) is.answered;
    booked = λ actor at.
        booked_shut actor k h (closing how h) Reply.Ok f old mid at (closed_is how h) is.answered (λ c e. never c (ap (λ (x : Effect). Some x) e)) board.whole is.moved;
  }
