-- A run of a crew of a floor, and what is told of it.
use Rattle.std.specs.Prelude.{◌≡◌, ℕ, List, true}
use Rattle.df_booking.specs.CrewState.{CrewState}
use Rattle.df_booking.specs.Manned.{IsFollowed}
use Rattle.df_floor_units.specs.Floor.{Mind}
use Rattle.df_crew.specs.Growing.{IsMore}
use Rattle.df_plain_floor.specs.PlainRun.{IsOpening, IsPlainRun, is_full}
use Rattle.df_plain_floor.specs.declared.run.Ended.{Ended}
use Rattle.df_plain_floor.specs.declared.run.Ended.TheVariants as ended
use Rattle.df_settling.specs.Settling.{floor_brain}
use Rattle.df_floor_run.specs.FloorRun.{EndsWith, report_text, run_text}
use Rattle.df_floor_run.specs.declared.run.FloorEnd.{FloorEnd}
use Rattle.df_floor_run.specs.declared.run.FloorEnd.TheVariants.{Quiet, Unsettled}

-- how a run ends that leads to a journal of so many entries
abbrev pub end_of : Ended → ℕ → FloorEnd
end_of ended.Quiet count = Quiet
end_of ended.Limit count = Unsettled count

-- the plain run leads from the one crew to the other, and ends so
pub record Ran (max : ℕ) (before after : CrewState Mind) (end : FloorEnd) : Type 0 where
  pub run : IsPlainRun floor_brain max before after
  pub start : after.core.0 ≡ before.core.0
  pub brains : after.brains ≡ before.brains
  pub followed : IsFollowed floor_brain after.brains after.core
  pub ends : EndsWith max after end

-- the text of a crew's plain run
pub record TellsRun (max : ℕ) (before : CrewState Mind) (text : List ℕ) (end : FloorEnd) :
    Type 0 where
  pub after : CrewState Mind
  pub ran : Ran max before after end
  pub told : text ≡ run_text after.core.0 after.core.1

-- the summary of a crew's plain run
pub record TellsReport (max : ℕ) (before : CrewState Mind) (text : List ℕ) : Type 0 where
  pub after : CrewState Mind
  pub end : FloorEnd
  pub ran : Ran max before after end
  pub told : text ≡ report_text after.core.1

-- after the plain opening the units of a crew took more turns, unless it was stopped there
pub record GoesOn (max : ℕ) (before after : CrewState Mind) : Type 0 where
  pub opened : CrewState Mind
  pub opening : IsOpening floor_brain max before opened
  pub more : IsMore opened after
  pub stopped : is_full max opened ≡ true → after ≡ opened

-- turns of some order lead from the one crew to the other, and end so
pub record Worked (max : ℕ) (before after : CrewState Mind) (end : FloorEnd) : Type 0 where
  pub goes : GoesOn max before after
  pub followed : IsFollowed floor_brain after.brains after.core
  pub ends : EndsWith max after end

-- the text of what turns of some order make of a crew
pub record TellsWorked (max : ℕ) (before : CrewState Mind) (text : List ℕ) (end : FloorEnd) :
    Type 0 where
  pub after : CrewState Mind
  pub worked : Worked max before after end
  pub told : text ≡ run_text after.core.0 after.core.1
