-- What a call of a hub does to its pass, and what a step books.
use Rattle.std.specs.Prelude.{◌≡◌, ◌+◌, ℕ, IfErr, IfOk, List, OnErr, OnOk, Result, length}
use mathlib.Core.List.{IsPrefix}
use Rattle.df_booking.specs.Booked.{IsCurrent, booked}
use Rattle.df_booking.specs.Manned.{IsFollowed}
use Rattle.df_crew.specs.Booking.{IsRefused}
use Rattle.df_crew.specs.Locally.{IsBegun}
use Rattle.df_crew.specs.Seen.{core_at, crew_at, seen_of}
use Rattle.df_crew.specs.declared.crew.NotTurned.{NotTurned}
use Rattle.df_crew.specs.declared.origin.Origin.{Origin}
use Rattle.df_desk.specs.Pass.{DeskId, IsFree, PassState, one_more}
use Rattle.df_hub.specs.declared.hub.Stepped.{Stepped}
use Rattle.df_rules.specs.Follows.{Brain}
use Rattle.df_turn.specs.Locally.{TurnState}
use Rattle.df_unit.specs.declared.entry.Entry.{Entry}

-- the pass has made one take more and no split, and has nothing; what the take found begins with
-- all that the pass had seen
pub record TakesOnce {O E : Type 0} (desk : DeskId O) (old new : PassState O E) : Type 0 where
  pub free : IsFree desk new
  pub takes : new.takes ≡ one_more old.takes
  pub splits : new.splits ≡ old.splits
  pub found : IsPrefix old.seen new.found

-- and it has then seen just what the take found: nothing was appended
pub record Looks {O E : Type 0} (desk : DeskId O) (old new : PassState O E) : Type 0 where
  pub once : TakesOnce desk old new
  pub seen : new.seen ≡ new.found

module _ {B : Type 0} (brain : Brain B) (origin : Origin B) where
  -- the journal, the oldest entry first, is one of this start and these brains: legal, nothing was
  -- emitted into it, and each unit makes the calls that its brain wants
  abbrev pub IsJournal : List Entry → Type 0
  IsJournal seen = IsFollowed brain origin.brains (core_at origin seen)

  -- the unit and its brain were as the turn began in the journal that was found, and the turn was
  -- booked at its end: what is then seen is that journal and behind it the turn's local calls and
  -- the one shared call that is wanted, or a get where the unit waits and a delivery is left
  pub record IsBooked (t : TurnState B) (found seen : List Entry) : Type 0 where
    pub current : IsCurrent brain t (crew_at origin found)
    pub journal : seen ≡ seen_of (booked brain t (crew_at origin found))

  -- the turn began in this journal, which has so many entries
  pub record BeganThere (t : TurnState B) (count : ℕ) (seen : List Entry) : Type 0 where
    pub current : IsCurrent brain t (crew_at origin seen)
    pub counted : length seen ≡ count

-- so many entries were appended to what was found, and there are then so many
pub record IsCounted (found seen : List Entry) (appended entries : ℕ) : Type 0 where
  pub grown : length seen ≡ appended + length found
  pub all : entries ≡ length seen

-- a step with this turn: the pass has made one take, and the journal that it has then seen is legal
-- and follows its brains; either the turn was booked at the end of what was found, and the unit's
-- next turn begins there, or nothing was appended, and the turn comes back with why
pub record IsStepped {B : Type 0} (brain : Brain B) (desk : DeskId (Origin B)) (t : TurnState B)
    (old new : PassState (Origin B) Entry) (r : Result (Stepped B) (NotTurned B)) : Type 0 where
  pub takes : TakesOnce desk old new
  pub journal : IsJournal brain desk.origin new.seen
  -- where it was booked: what is then seen, and the unit's next turn, if there was memory for that
  pub booked : OnOk r (IsBooked brain desk.origin t new.found new.seen)
  pub counted : IfOk r (λ s. IsCounted new.found new.seen s.appended s.entries)
  pub anew : IfOk r (λ s. IfOk s.turn (λ next.
      IsBegun brain desk.origin.brains (core_at desk.origin new.seen) t.unit.unit next))
  -- where it was refused: why, in the journal that was found
  pub refused : IfErr r (λ e. IsRefused e.cause brain t (crew_at desk.origin new.found))
  pub unchanged : OnErr r (new.seen ≡ new.found)
  pub back : IfErr r (λ e. e.turn ≡ t)
