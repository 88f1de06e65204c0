-- When a board agrees with a journal.
use Rattle.std.specs.Prelude.{◌≡◌, ◌↔◌, ℕ, ◌+◌, ◌≤◌, ◌==◌, ◌&&◌, ◌||◌, if◌then◌else◌, Bool, false, List, ◌∷◌, ◌++◌, Option, Some, None, length, map, nat_lt, slice_get, slice_index_or, vec_capacity, vec_len}
use Rattle.std.specs.Global.{Vec}
use Rattle.std.specs.List.{Contains, list_any}
use Rattle.std.specs.List.Sorted.{IsStrictlySortedBy}
use Rattle.df_filter.specs.declared.clause.Clause.{Clause}
use Rattle.df_index.specs.Due.{Pair, has_pair, pair_cmp}
use Rattle.df_index.specs.Filter.{matches}
use Rattle.df_index.specs.IndexState.{IsReceiver, was_handed}
use Rattle.df_instances.specs.Marks as marks
use Rattle.df_instances.specs.Named.{AreNumbered, kept_in}
use Rattle.df_instances.specs.declared.subscription.ManagedSubscription.{ManagedSubscription}
use Rattle.df_local.specs.Locally.{row_answer}
use Rattle.df_rules.specs.Deliveries.{deliveries}
use Rattle.df_rules.specs.Start.{rows, roots}
use Rattle.df_label.specs.declared.label.Label.{Label}
use Rattle.df_label.specs.declared.privilege.Privilege.{Privilege}
use Rattle.df_unit.specs.declared.call.Call.{Call}
use Rattle.df_unit.specs.declared.call.Call.TheVariants.{Instantiate}
use Rattle.df_unit.specs.declared.entry.Effect.{Effect}
use Rattle.df_unit.specs.declared.entry.Entry.{Entry}
use Rattle.df_unit.specs.declared.entry.Entry.TheVariants.{Done, Emitted}
use Rattle.df_unit.specs.Name.{same, same_event}
use Rattle.df_unit.specs.OwnState.{OwnState}
use Rattle.df_unit.specs.Rows.{is_accepted}
use Rattle.df_unit.specs.declared.commit.Commit.{Commit}
use Rattle.df_unit.specs.declared.commit.Given.{Given}
use Rattle.df_unit.specs.declared.name.EventName.{EventName}
use Rattle.df_part.specs.Contents.{apply}
use Rattle.df_unit.specs.declared.name.UnitName.{UnitName}
use Rattle.df_unit.specs.declared.reply.Reply.{Reply}
use Rattle.df_roll.specs.Roll.{names_in, seat_of}
use Rattle.df_roll.specs.declared.seat.Seat.{Seat}
use Rattle.df_tables.specs.Agree.{Agrees, AreWithin, FilterIndex, IsWhole, ManagedState, enrols}
use Rattle.df_tables.specs.Labels.{AreLabels, inputs}
use Rattle.df_tables.specs.Events.{IsOpened, event_place}
use Rattle.df_tables.specs.Hand.{IsAnsweredAt, IsNews, TellsAt, modify, shut_row, shut_where, with_news}
use Rattle.df_tables.specs.Moves.{closed_by}
use Rattle.df_tables.specs.Births.{all_new, child_row, if_new, rows_in}
use Rattle.df_tables.specs.Calls.{AreCalled, places_by}
use Rattle.df_tables.specs.Table.{find, moved_row, parts_of, place_of}
use Rattle.df_tables.specs.declared.board.Board.{Board}
use Rattle.df_tables.specs.declared.commits.Ready.{Ready}
use Rattle.df_tables.specs.declared.events.EventRow.{EventRow}
use Rattle.df_tables.specs.declared.units.Unit.{Unit}

-- the roll has the place of each unit's row
abbrev pub IsRollOf : List Seat → List Unit → Type 0
IsRollOf roll us = (n : UnitName) → seat_of n roll ≡ place_of n us

-- the tables fit each other
pub record IsBoard (b : Board) : Type 0 where
  pub whole : IsWhole b.rows.items b.events b.index
  pub roll : IsRollOf b.roll.seats b.rows.items
  pub labels : AreLabels (inputs b.rows.items) b.labels.items b.stale

-- there is room for so many more rows
pub record HasRoom (n : ℕ) (b : Board) : Type 0 where
  pub rows : vec_len b.rows + n ≤ vec_capacity b.rows
  pub labels : vec_len b.labels + n ≤ vec_capacity b.labels
  pub seats : n ≤ b.roll.room

-- what managed subscriptions and the marks of instances tell
abbrev pub managed_by : List ManagedSubscription → List (List ℕ) → ManagedState
managed_by managed handed = record {
  kept = λ o n. kept_in managed o n;
  told = λ event place. marks.was_handed handed event place;
}

-- what the board tells of managed subscriptions
abbrev pub managed_of : Board → ManagedState
managed_of b = managed_by b.managed b.marks.handed

-- the tables tell of the journal of these roots, no owner gave one number to two managed
-- subscriptions, and no event without a row is marked, nor any event for who has no row
pub record TellsOf (starts : List (Label × List Privilege)) (past : List Entry) (b : Board)
    : Type 0 where
  pub agrees : Agrees rows (roots starts) past b.rows.items b.events b.index (managed_of b)
  pub numbered : AreNumbered b.managed
  pub within : AreWithin b.rows.items b.events (managed_of b).told

-- the units that have a row, as the roll names them
abbrev pub units_in : Board → List UnitName
units_in b = names_in b.roll.seats

-- the place of a unit's row, where it has one
abbrev pub place_on : Board → UnitName → Option ℕ
place_on b n = place_of n b.rows.items

-- the row of a unit, where it has one
abbrev pub row_on : Board → UnitName → Option Unit
row_on b n = find n b.rows.items

-- the row at a place, if there is one
abbrev pub row_by : Board → Option ℕ → Option Unit
row_by b None = None
row_by b (Some k) = slice_get b.rows.items k

-- the answer of a row, if there is one
abbrev pub answer_from : Option Unit → Call → Reply × Effect
answer_from None c = (Reply.NoSuchUnit, Effect.Nothing)
answer_from (Some u) c = row_answer u.local u.line.left c

-- the answer of a unit's row to a call
abbrev pub answer_on : Board → UnitName → Call → Reply × Effect
answer_on b a c = answer_from (row_on b a) c

-- what the tables told they tell with one more entry
abbrev pub IsBooked : UnitName → Call → Reply → Effect → Board → Board → Type 0
IsBooked a c r f old new = (starts : List (Label × List Privilege)) (past : List Entry) →
    TellsOf starts past old → TellsOf starts (Done a c r f ∷ past) new

-- what the tables told they tell with one more entry, an emitted commit
abbrev pub IsEmitted : Commit → Board → Board → Type 0
IsEmitted commit old new = (starts : List (Label × List Privilege)) (past : List Entry) →
    TellsOf starts past old → TellsOf starts (Emitted commit ∷ past) new

-- what the tables told they tell
abbrev pub IsKept : Board → Board → Type 0
IsKept old new = (starts : List (Label × List Privilege)) (past : List Entry) →
    TellsOf starts past old → TellsOf starts past new

-- whether a commit, as the next entry, brings the unit a delivery
abbrev pub is_brought : List OwnState → List Entry → Commit → UnitName → Bool
is_brought s past commit n = nat_lt (length (deliveries rows s past n))
    (length (deliveries rows s (Emitted commit ∷ past) n))

-- these are the units to which a commit, as the next entry, is handed
abbrev pub AreReceivers : Commit → List UnitName → Board → Type 0
AreReceivers commit names b = (starts : List (Label × List Privilege)) (past : List Entry) →
    TellsOf starts past b → (n : UnitName) →
    list_any (λ m. same m n) names ≡ is_brought (roots starts) past commit n

-- the rows and the subscriptions stay, and at most a row of the event is new, without parts
pub record IsOpenedBoard (event : EventName) (old new : Board) : Type 0 where
  pub rows : new.rows.items ≡ old.rows.items
  pub roll : new.roll.seats ≡ old.roll.seats
  pub enrolled : new.index.enrolled ≡ old.index.enrolled
  pub handed : new.index.handed ≡ old.index.handed
  pub managed : new.managed ≡ old.managed
  pub told : new.marks.handed ≡ old.marks.handed
  pub opened : IsOpened event old.events new.events

-- all receivers that have a row: those of both kinds, or the plain ones where all are plain
abbrev pub receivers_by : Option (Vec Pair) → List Pair → List Pair
receivers_by None to = to
receivers_by (Some both) to = both.items

-- all receivers of a commit that have a row
abbrev pub receivers_of : Ready → List Pair
receivers_of ready = receivers_by ready.both ready.to

-- the event has this place, its parts after the commit are these, it waits to be handed to just
-- those to whom it is to be handed, and there is room for those who come to exist by it
pub record IsReady (c : Commit) (b : Board) (ready : Ready) : Type 0 where
  pub place : event_place c.event b.events ≡ Some ready.place
  pub after : ready.after ≡ apply c.edit (parts_of c.event b.events)
  pub ascending : IsStrictlySortedBy pair_cmp ready.to
  pub due : (p : Pair) → Contains ready.to p
      ↔ IsReceiver matches (inputs b.rows.items) b.index ready.place ready.after c.edit p
  pub waits : b.index.ready ≡ Some (ready.place, ready.to)
  pub called : AreCalled b.rows.items b.managed b.marks.handed c ready.place ready.after
      ready.called
  pub receivers : receivers_of ready ≡ ready.to ++ ready.called.pairs.items
  pub marked : b.marks.ready ≡ Some (
    ready.place,
    places_by (length b.rows.items) ready.called.pairs.items (rows_in ready.called.born.items),
  )

-- the rows are these, and beside them at most the labels are others
pub record IsBeside (us : List Unit) (old new : Board) : Type 0 where
  pub rows : new.rows.items ≡ us
  pub roll : new.roll.seats ≡ old.roll.seats
  pub events : new.events ≡ old.events
  pub index : new.index ≡ old.index
  pub managed : new.managed ≡ old.managed
  pub told : new.marks.handed ≡ old.marks.handed

-- at most the labels are others
abbrev pub IsRenewed : Board → Board → Type 0
IsRenewed old new = IsBeside old.rows.items old new

-- the row at a place answers so to a call, which whatever the tables told is its unit's next entry
pub record IsMade (place : Option ℕ) (c : Call) (a : Reply × Effect) (old new : Board)
    : Type 0 where
  pub answer : answer_from (row_by old place) c ≡ a
  pub booked : (actor : UnitName) → place_on old actor ≡ place → IsBooked actor c a.0 a.1 old new

-- a call that its unit makes of its own state alone is made; at any other at most the labels are
-- others
abbrev pub MakesAlone : Option ℕ → Call → Option Reply → Board → Board → Type 0
MakesAlone place c None old new = IsRenewed old new
MakesAlone place c (Some r) old new = IsMade place c (r, Effect.Nothing) old new

-- the row at a place is moved as its unit's call does, and the subscription that is made, if any,
-- is enrolled
pub record IsMovedBoard (k : ℕ) (c : Call) (r : Reply) (f : Effect)
    (made : Option (ℕ × List Clause)) (old new : Board) : Type 0 where
  pub rows : new.rows.items ≡ modify k (moved_row rows c r f) old.rows.items
  pub roll : new.roll.seats ≡ old.roll.seats
  pub events : new.events ≡ old.events
  pub enrolled : new.index.enrolled ≡ old.index.enrolled ++ enrols (Some k) made
  pub handed : new.index.handed ≡ old.index.handed
  pub told : new.marks.handed ≡ old.marks.handed

-- a handle of the unit at a place is closed
abbrev pub IsShutBoard : ℕ → ℕ → Board → Board → Type 0
IsShutBoard k h old new = IsBeside (modify k (shut_row h) old.rows.items) old new

-- the unit at a place answers the call so, and its handle is closed where that is with Ok
pub record TakesClosed (k : ℕ) (c : Call) (h : ℕ) (made : Option Effect) (old new : Board)
    : Type 0 where
  pub answered : TellsAt k c made old.rows.items
  pub moved : IsBeside (shut_where made k h old.rows.items) old new

-- a publish or a release that is answered with Ok is made, and this is its effect; at one that is
-- refused at most the labels are others
abbrev pub MakesClosing : Option ℕ → Call → Option Effect → Board → Board → Type 0
MakesClosing place c None old new =
    (is_accepted (answer_from (row_by old place) c).0 ≡ false) × IsRenewed old new
MakesClosing place c (Some f) old new = IsMade place c (Reply.Ok, f) old new

-- whichever call of the unit at a place closes the handle with this effect, it is taken in
abbrev pub ClosesAt : ℕ → ℕ → Effect → Board → Board → Type 0
ClosesAt k h f old new = (actor : UnitName) (c : Call) (r : Reply) →
    place_on old actor ≡ Some k → closed_by c r ≡ Some h →
    IsAnsweredAt k c r f old.rows.items → IsBooked actor c r f old new

-- the row of a unit is new, unless it had one
pub record IsBornBoard (born : Unit) (old new : Board) : Type 0 where
  pub rows : new.rows.items ≡ old.rows.items ++ if_new born old.rows.items
  pub events : new.events ≡ old.events
  pub index : new.index ≡ old.index
  pub managed : new.managed ≡ old.managed
  pub told : new.marks.handed ≡ old.marks.handed

-- the rows of these are new, each unless its unit had one
pub record AreBorn (born : List Unit) (old new : Board) : Type 0 where
  pub rows : new.rows.items ≡ all_new born old.rows.items
  pub events : new.events ≡ old.events
  pub index : new.index ≡ old.index
  pub managed : new.managed ≡ old.managed
  pub told : new.marks.handed ≡ old.marks.handed

-- the row of the unit at a place has counted a child, whose row is new, unless it had one
pub record IsChildBoard (k number : ℕ) (s : List (List ℕ)) (privileges : List Privilege)
    (old new : Board) : Type 0 where
  pub rows : (d : Unit) → new.rows.items
      ≡ modify k (moved_row rows (Instantiate s privileges) (Reply.Unit number) Effect.Nothing)
      (old.rows.items ++ if_new (child_row (slice_index_or old.rows.items k d).local number s
      privileges) old.rows.items)
  pub events : new.events ≡ old.events
  pub index : new.index ≡ old.index
  pub managed : new.managed ≡ old.managed
  pub told : new.marks.handed ≡ old.marks.handed

-- a commit that was handed to all that have a row is marked so, its event has the parts after it,
-- and those who come to exist by it have their rows
pub record IsClosed (ready : Ready) (old new : Board) : Type 0 where
  pub rows : new.rows.items ≡ all_new (rows_in ready.called.born.items) old.rows.items
  pub managed : new.managed ≡ old.managed
  pub told : (e q : ℕ) → marks.was_handed new.marks.handed e q
      ≡ (marks.was_handed old.marks.handed e q || marks.is_ready old.marks.ready e q)
  pub enrolled : new.index.enrolled ≡ old.index.enrolled
  pub handed : (e : ℕ) (p : Pair) → was_handed new.index.handed e p
      ≡ (was_handed old.index.handed e p || ((e == ready.place) && has_pair ready.to p))
  pub size : length new.events ≡ length old.events
  pub places : (e : EventName) → event_place e new.events ≡ event_place e old.events
  pub parts : (event : EventName) → event_place event old.events ≡ Some ready.place →
      (e : EventName) → parts_of e new.events
      ≡ (if same_event event e then ready.after else parts_of e old.events)

-- of what stands beside the rows, the marks tell of a commit that was made ready, and its event has
-- the parts after it
pub record AreMarked (commit : Commit) (ready : Ready) (subs subs' : List ManagedSubscription)
    (marked marked' : marks.MarksState) (index index' : FilterIndex) (events events' : List EventRow)
    : Type 0 where
  pub managed : subs' ≡ subs
  pub told : (e q : ℕ) → marks.was_handed marked'.handed e q
      ≡ (marks.was_handed marked.handed e q || marks.is_ready marked.ready e q)
  pub enrolled : index'.enrolled ≡ index.enrolled
  pub handed : (e : ℕ) (p : Pair) → was_handed index'.handed e p
      ≡ (was_handed index.handed e p || ((e == ready.place) && has_pair ready.to p))
  pub size : length events' ≡ length events
  pub places : (e : EventName) → event_place e events' ≡ event_place e events
  pub parts : (e : EventName) → parts_of e events'
      ≡ (if same_event commit.event e then ready.after else parts_of e events)

-- the event has its row, and a commit that was made ready there is marked
pub record IsMarkedBoard (commit : Commit) (old new : Board) : Type 0 where
  pub opened : Board
  pub ready : Ready
  pub opening : IsOpenedBoard commit.event old opened
  pub made : IsReady commit opened ready
  pub left : AreMarked commit ready opened.managed new.managed opened.marks new.marks
      opened.index new.index opened.events new.events

-- a commit is handed to its receivers and no other row, is marked so, its event has the parts after
-- it, and those who come to exist by it have their rows
pub record IsHandedBoard (commit : Commit) (old new : Board) : Type 0 where
  pub marked : IsMarkedBoard commit old new
  pub rows : (given : Unit → List Given) →
      IsNews given commit.event marked.ready.after (receivers_of marked.ready)
      marked.opened.rows.items →
      new.rows.items ≡ all_new (rows_in marked.ready.called.born.items)
      (map (with_news given) marked.opened.rows.items)
