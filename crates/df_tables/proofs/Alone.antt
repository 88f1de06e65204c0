-- A call that a unit makes of its own state alone, in the tables.
use Rattle.df_tables.proofs.Names.{◌≡◌, ℕ, ◌<◌, true, false, List, get_or, length, set, slice_get, Option, None, Some, Result, Ok, Err, IfOk, OnErr, refl, ap, sym, subst, ◌∙◌, append-nil, get_or_default, set-get_or, Clause, MakesBriefly, accepted_reply, brief_call, IsMadeAlone, is_alone, row_answer, LocalState, rows, Call, ChangeInOut, Instantiate, Subscribe, SubscribeManaged, Effect, UnitName, Reply, Label, NoMemory, FilterIndex, IsWhole, IsBoard, IsMade, IsMovedBoard, IsRenewed, MakesAlone, answer_from, place_on, row_by, IsAnsweredAt, IsMadeAt, modify, AreLabels, inputs, child_by, is_in_out, managed_sub_by, moved_row, names_of, place_of, Board, EventRow, Unit}
use Rattle.std.proofs.lemmas.Option.{get_or_from_slice_get}
use Rattle.std.specs.Option.{option_map}
use Rattle.df_local.specs.Locally.{MakesAlone as MakesAloneOf}
use Rattle.df_local.specs.declared.brief.Accepted.{Accepted}
use Rattle.df_local.specs.declared.brief.Brief.{Brief}
use Rattle.df_tables.specs.Moves.{made_by}
use Rattle.df_tables.proofs.Booked.{booked_plain, found, kept_renewed, place_in, row_is}
use Rattle.df_tables.proofs.Each.{set_modify}
use Rattle.df_tables.proofs.Moved.{board_other}
use Rattle.df_tables.proofs.Order.{roll_like}

-- such a call makes no unit and no subscription, and changes no label at which its unit reads

pub alone_childless : (c : Call) (r : Reply) → is_alone c ≡ true → child_by c r ≡ None
alone_childless (Instantiate s privileges) r h = absurd (let z : ⊥ = cc in z)
alone_childless _ r h = refl

pub alone_unmanaged : (c : Call) (r : Reply) → is_alone c ≡ true → managed_sub_by c r ≡ None
alone_unmanaged (SubscribeManaged filter) r h = absurd (let z : ⊥ = cc in z)
alone_unmanaged _ r h = refl

alone_makes_none : (c : Call) (r : Reply) → is_alone c ≡ true → made_by c r ≡ None
alone_makes_none (Subscribe filter) r h = absurd (let z : ⊥ = cc in z)
alone_makes_none _ r h = refl

alone_quiet : (c : Call) → is_alone c ≡ true → is_in_out c ≡ false
alone_quiet (ChangeInOut half act tag) h = absurd (let z : ⊥ = cc in z)
alone_quiet _ h = refl

-- the row with another own state of its unit
abbrev pub with_local : Unit → LocalState → Unit
with_local u l = record { local = l; line = u.line }

-- where nothing is done of the unit at a place, the table is as before
pub left_at : (k : ℕ) (d : Unit) (us : List Unit) (new : LocalState) → new ≡ (get_or us k d).local → set us k (with_local (get_or us k d) new) ≡ us
left_at k d us new same = ap (λ (l : LocalState). set us k (with_local (get_or us k d) l)) same ∙ set-get_or us k d

-- what the unit at a place makes of its own state alone is made in the table
pub made_alone_at : (k : ℕ) (c : Call) (r : Reply) (d : Unit) (us : List Unit) (new : LocalState) → k < length us
    → IsMadeAlone c r (get_or us k d).local new → IsMadeAt k c (Some r) us (set us k (with_local (get_or us k d) new))
made_alone_at k c r d us new within h =
    let u = get_or us k d in
    let answered : IsAnsweredAt k c r Effect.Nothing us
    = λ e i. subst (λ (v : Unit). row_answer v.local v.line.left c ≡ (r, Effect.Nothing)) (get_or_default us k d e within) (h.answered u.line.left) in
    (h.alone, answered, ap (λ (l : LocalState). set us k (with_local u l)) h.moved ∙ set_modify k (moved_row rows c r Effect.Nothing) d us)

pub made_at : (k : ℕ) (c : Call) (made : Option Reply) (d : Unit) (us : List Unit) (new : LocalState) → k < length us
    → MakesAloneOf c made (get_or us k d).local new → IsMadeAt k c made us (set us k (with_local (get_or us k d) new))
made_at k c None d us new within h = left_at k d us new h.1
made_at k c (Some r) d us new within h = made_alone_at k c r d us new within h

pub made_briefly_at : (k : ℕ) (b : Brief) (made : Option Accepted) (d : Unit) (us : List Unit) (new : LocalState) → k < length us
    → MakesBriefly b made (get_or us k d).local new → IsMadeAt k (brief_call b) (option_map accepted_reply made) us (set us k (with_local (get_or us k d) new))
made_briefly_at k b None d us new within h = left_at k d us new h
made_briefly_at k b (Some a) d us new within h = made_alone_at k (brief_call b) (accepted_reply a) d us new within h

-- all but the rows is as before
pub record IsBesideRows (old new : Board) : Type 0 where
  pub seats : new.roll.seats ≡ old.roll.seats
  pub labels : new.labels.items ≡ old.labels.items
  pub stale : new.stale ≡ old.stale
  pub events : new.events ≡ old.events
  pub index : new.index ≡ old.index
  pub managed : new.managed ≡ old.managed
  pub told : new.marks.handed ≡ old.marks.handed

-- where a row is moved, and nothing is enrolled
pub moved_beside : (k : ℕ) (c : Call) (r : Reply) (f : Effect) (old new : Board) → IsBesideRows old new → new.rows.items ≡ modify k (moved_row rows c r f) old.rows.items
    → IsMovedBoard k c r f None old new
moved_beside k c r f old new beside moved = record {
  rows = moved;
  roll = beside.seats;
  events = beside.events;
  enrolled = ap (λ (x : FilterIndex). x.enrolled) beside.index ∙ sym (append-nil old.index.enrolled);
  handed = ap (λ (x : FilterIndex). x.handed) beside.index;
  told = beside.told;
}

module _ (a : UnitName) (k : ℕ) (c : Call) (old new : Board) (here : place_on old a ≡ Some k) (board : IsBoard old) (beside : IsBesideRows old new) where
  moved : (r : Reply) → IsMadeAt k c (Some r) old.rows.items new.rows.items → IsMovedBoard k c r Effect.Nothing None old new
  moved r made = moved_beside k c r Effect.Nothing old new beside made.2

  pub board_alone : (made : Option Reply) → IsMadeAt k c made old.rows.items new.rows.items → IsBoard new
  board_alone None same = record {
    whole = subst (λ (us : List Unit). IsWhole us new.events new.index) (sym same)
        (subst (λ (evs : List EventRow). IsWhole old.rows.items evs new.index) (sym beside.events)
        (subst (λ (x : FilterIndex). IsWhole old.rows.items old.events x) (sym beside.index) board.whole));
    roll = roll_like old.roll.seats new.roll.seats old.rows.items new.rows.items beside.seats (ap names_of same) board.roll;
    labels = subst (λ (us : List Unit). AreLabels (inputs us) new.labels.items new.stale) (sym same)
        (subst (λ (ls : List Label). AreLabels (inputs old.rows.items) ls new.stale) (sym beside.labels)
        (subst (λ (p : Option ℕ). AreLabels (inputs old.rows.items) old.labels.items p) (sym beside.stale) board.labels));
  }
  board_alone (Some r) made =
      board_other k c r Effect.Nothing None old new (place_in a old.rows.items k here) board (moved r made) (alone_quiet c made.0) beside.labels beside.stale

  pub makes_alone : (made : Option Reply) → IsMadeAt k c made old.rows.items new.rows.items → MakesAlone (Some k) c made old new
  makes_alone None same = record {
    rows = same;
    roll = beside.seats;
    events = beside.events;
    index = beside.index;
    managed = beside.managed;
    told = beside.told;
  }
  makes_alone (Some r) made =
      let row = found a old.rows.items k here in
      let makes_none = sym (alone_makes_none c r made.0) in
      record {
        answer = ap (λ (o : Option Unit). answer_from o c) (row_is old a (Some k) here ∙ row.1) ∙ row.2 c r Effect.Nothing made.1;
        booked = λ actor at.
            booked_plain actor k c r Effect.Nothing old new at (alone_unmanaged c r made.0) (alone_childless c r made.0) made.1 refl board.whole
            (subst (λ (m : Option (ℕ × List Clause)). IsMovedBoard k c r Effect.Nothing m old new) makes_none (moved r made)) beside.managed;
      }

-- whether memory was wanting or not, something was made, or nothing
pub made_or_not : {X Y : Type 0} (P : Option Y → Type 0) (made_of : X → Option Y) (r : Result X NoMemory)
    → IfOk r (λ x. P (made_of x)) → OnErr r (P None) → (made : Option Y) × P made
made_or_not P made_of (Ok x) is same = (made_of x, is)
made_or_not P made_of (Err refused) is same = (None, same)

-- a row stands where it stood, where at most the labels are others
row_renewed : (place : Option ℕ) (old new : Board) → IsRenewed old new → row_by new place ≡ row_by old place
row_renewed None old new same = refl
row_renewed (Some k) old new same = ap (λ (us : List Unit). slice_get us k) same.rows

-- what is made where at most the labels became others is made
pub made_renewed : (place : Option ℕ) (c : Call) (a : Reply × Effect) (old between new : Board) → IsRenewed old between → IsMade place c a between new → IsMade place c a old new
made_renewed place c a old between new same made = record {
  answer = ap (λ (o : Option Unit). answer_from o c) (sym (row_renewed place old between same)) ∙ made.answer;
  booked = λ actor here starts past tells.
      made.booked actor (ap (λ (us : List Unit). place_of actor us) same.rows ∙ here) starts past (kept_renewed old between same starts past tells);
}

-- a call that its unit makes of its own state alone, and that leaves that as it is, is made in the board as it is
pub stays_alone : (a : UnitName) (place : Option ℕ) (c : Call) (r : Reply) (u : Unit) (b : Board) → place_on b a ≡ place → IsBoard b
    → row_by b place ≡ Some u → IsMadeAlone c r u.local u.local → IsMade place c (r, Effect.Nothing) b b
stays_alone a None c r u b here board row made = absurd (cc)
stays_alone a (Some k) c r u b here board row made =
    let us = b.rows.items in
    let within = place_in a us k here in
    let at : get_or us k u ≡ u = get_or_from_slice_get us k u u row in
    let is = subst (λ (v : Unit). IsMadeAlone c r v.local u.local) (sym at) made in
    let same = left_at k u us u.local (sym (ap (λ (v : Unit). v.local) at)) in
    makes_alone a k c b b here board (record { seats = refl; labels = refl; stale = refl; events = refl; index = refl; managed = refl; told = refl }) (Some r)
    (subst (λ (vs : List Unit). IsMadeAt k c (Some r) us vs) same (made_alone_at k c r u us u.local within is))
