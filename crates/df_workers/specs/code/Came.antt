-- What came of steps, and what it tells of the journals before and after them.
use Rattle.std.specs.Prelude.{◌≡◌, ◌==◌, ◌<◌, ◌≤◌, ◌%◌, ⊤, ℕ, Bool, true, false, if◌then◌else◌, List, Option, None, Some, Result, Ok, Err, length, nat_le, slice_get}
use mathlib.Core.List.{IsPrefix}
use Rattle.df_crew.specs.Locally.{IsBegun}
use Rattle.df_crew.specs.Resting.{IsResting}
use Rattle.df_crew.specs.Seen.{core_at, crew_at}
use Rattle.df_crew.specs.declared.origin.Origin.{Origin}
use Rattle.df_desk.specs.Pass.{DeskId, IsFree}
use Rattle.df_hub.specs.declared.hub.Stepped.{Stepped}
use Rattle.df_rules.specs.Follows.{Brain}
use Rattle.df_turn.specs.Locally.{TurnState}
use Rattle.df_unit.specs.declared.entry.Entry.{Entry}
use Rattle.df_unit.specs.declared.name.UnitName.{UnitName}
use Rattle.df_workers.specs.Serving.{HasMoved, IsServed}
use Rattle.df_workers.specs.declared.came.Came.{Came}
use Rattle.df_workers.specs.declared.came.Came.TheVariants.{Still, Moved, Full, NoMemory}
use Rattle.df_workers.specs.declared.step.Next.{Next}
use Rattle.df_workers.specs.declared.step.Next.TheVariants.{Goes, Ends}
use Rattle.df_workers.specs.declared.worker.Worker.{Worker}

-- what came of these steps and of others
abbrev pub came_then : Came → Came → Came
came_then NoMemory other = NoMemory
came_then Full NoMemory = NoMemory
came_then Full Still = Full
came_then Full Moved = Full
came_then Full Full = Full
came_then Moved NoMemory = NoMemory
came_then Moved Full = Full
came_then Moved Still = Moved
came_then Moved Moved = Moved
came_then Still other = other

-- whether no further step is to be made
abbrev pub is_over : Came → Bool
is_over Still = false
is_over Moved = false
is_over Full = true
is_over NoMemory = true

-- unless that is so, this holds
abbrev pub UnlessOver : Came → Type 0 → Type 0
UnlessOver Still p = p
UnlessOver Moved p = p
UnlessOver Full p = ⊤
UnlessOver NoMemory p = ⊤

-- no step was made: this holds, or there was no memory
abbrev pub NoneMade : Came → Type 0 → Type 0
NoneMade Still p = p
NoneMade Moved p = ⊥
NoneMade Full p = ⊥
NoneMade NoMemory p = ⊤

-- what ends a unit's steps: the journal is full, or nothing was appended
abbrev pub ends_of : ℕ → ℕ → ℕ → Option Came
ends_of max appended entries = if nat_le max entries then Some Full
    else if appended == 0 then Some Still else None

-- the unit's next turn, unless there was no memory for it
abbrev pub next_turn : {B E : Type 0} → Result (TurnState B) E → Next B
next_turn (Ok t) = Goes t Moved
next_turn (Err e) = Ends NoMemory

-- what follows a step that was booked
abbrev pub next_by : {B E : Type 0} → Option Came → Result (TurnState B) E → Next B
next_by (Some came) turn = Ends came
next_by None turn = next_turn turn

abbrev pub next_of : {B : Type 0} → ℕ → Stepped B → Next B
next_of max s = next_by (ends_of max s.appended s.entries) s.turn

-- how the journal has grown by them
abbrev pub Grew : ℕ → Came → List Entry → List Entry → Type 0
Grew max Still before after = ⊤
Grew max Moved before after = (length before < max) × (length before < length after)
Grew max Full before after = max ≤ length after
Grew max NoMemory before after = ⊤

module _ {B : Type 0} (brain : Brain B) (origin : Origin B) where
  -- the unit's turn as it begins in this journal; a unit that doesn't exist has none
  abbrev pub IsFirst : UnitName → List Entry → Next B → Type 0
  IsFirst u seen (Goes t came) =
      IsBegun brain origin.brains (core_at origin seen) u t × (came ≡ Still)
  IsFirst u seen (Ends came) = NoneMade came (IsResting brain (crew_at origin seen) u)

  -- the turn began as the unit's in this journal, and was advanced
  pub record IsAdvanced (u : UnitName) (seen : List Entry) (t : TurnState B) : Type 0 where
    pub first : TurnState B
    pub begun : IsBegun brain origin.brains (core_at origin seen) u first
    pub advanced : t ≡ record first { is_ready = true }

  -- what follows a step of a unit: where the worker goes on, the unit has an entry that was not
  -- seen before, and its next turn begins in the journal that is then seen; where it leaves the
  -- unit, the unit has been served
  abbrev pub IsNext : ℕ → UnitName → List Entry → List Entry → Next B → Type 0
  IsNext max u before after (Goes t came) =
      IsBegun brain origin.brains (core_at origin after) u t × HasMoved u before after
      × Grew max came before after × (is_over came ≡ false)
  IsNext max u before after (Ends came) =
      UnlessOver came (IsServed brain origin u before after) × Grew max came before after

  -- each unit at a place of this worker has been served
  abbrev pub AreServedOf : ℕ → ℕ → List UnitName → List Entry → List Entry → Type 0
  AreServedOf workers number units before after = (k : ℕ) (u : UnitName) →
      slice_get units k ≡ Some u → k % workers ≡ number → IsServed brain origin u before after

-- what a worker's round makes of the worker
pub record HasWorked {B : Type 0} (brain : Brain B) (desk : DeskId (Origin B)) (max workers : ℕ)
    (units : List UnitName) (number : ℕ) (old new : Worker B) : Type 0 where
  pub free : IsFree desk new.pass
  pub begins : IsPrefix old.pass.seen new.pass.seen
  pub grew : Grew max new.came old.pass.seen new.pass.seen
  pub served : UnlessOver new.came
      (AreServedOf brain desk.origin workers number units old.pass.seen new.pass.seen)
