-- A turn that began in an earlier journal of a crew.
use Rattle.std.specs.Prelude.{◌≡◌, ℕ, List, length}
use mathlib.Core.List.{IsPrefix}
use Rattle.df_booking.specs.Booked.{IsCurrent}
use Rattle.df_booking.specs.CrewState.{CrewState}
use Rattle.df_crew.specs.Seen.{crew_at, origin_of, seen_of}
use Rattle.df_rules.specs.Follows.{Brain}
use Rattle.df_turn.specs.Locally.{TurnState}
use Rattle.df_unit.specs.declared.entry.Entry.{Entry}

-- the unit and its brain were as the turn began when the crew's journal had so many entries
pub record WasCurrent {B : Type 0} (brain : Brain B) (t : TurnState B) (count : ℕ)
    (crew : CrewState B) : Type 0 where
  pub before : List Entry
  pub begins : IsPrefix before (seen_of crew)
  pub counted : length before ≡ count
  pub current : IsCurrent brain t (crew_at (origin_of crew) before)
