-- The plain run of a trading floor, and what is written of it.
use Rattle.std.specs.Prelude.{◌≡◌, ◌≤◌, ℕ, List, [], ◌++◌, codes, length, reverse}
use Rattle.df_config.specs.declared.config.Config.{Config}
use Rattle.df_booking.specs.CrewState.{CrewState}
use Rattle.df_floor.specs.Brains.{floor_brains}
use Rattle.df_floor.specs.Starting.{floor_start}
use Rattle.df_floor_units.specs.Floor.{Mind}
use Rattle.df_journal_text.specs.Start.{journal_text}
use Rattle.df_plain_floor.specs.PlainRun.{IsPlainRun, IsQuiet}
use Rattle.df_replay.specs.Noted.{noted}
use Rattle.df_report.specs.SummaryText.{summary_text}
use Rattle.df_report.specs.Summing.{summary_of}
use Rattle.df_rules.specs.Follows.{Opens}
use Rattle.df_settling.specs.Settling.{IsFloorJournal, floor_brain}
use Rattle.df_start.specs.declared.start.RootStart.{RootStart}
use Rattle.df_ticks.specs.declared.tick.Tick.{Tick}
use Rattle.df_unit.specs.declared.entry.Entry.{Entry}
use Rattle.df_floor_run.specs.declared.run.FloorEnd.{FloorEnd}
use Rattle.df_floor_run.specs.declared.run.FloorEnd.TheVariants.{Quiet, Unsettled}

-- the crew of a floor before its first turn
abbrev pub fresh_crew : Config → List Tick → CrewState Mind
fresh_crew c ticks = record { core = (floor_start c, []); brains = floor_brains c ticks }

-- a crew of the floor after some turns: its journal is one of the floor, in which each root but the
-- first waits before the first root's first entry
pub record IsFloorCrew (c : Config) (ticks : List Tick) (after : CrewState Mind) : Type 0 where
  pub start : after.core.0 ≡ floor_start c
  pub brains : after.brains ≡ floor_brains c ticks
  pub journal : IsFloorJournal c ticks after.core.1
  pub opens : Opens floor_brain (floor_brains c ticks) after.core.1

-- the plain run of a floor leads to this crew
pub record RunsTo (c : Config) (ticks : List Tick) (after : CrewState Mind) : Type 0 where
  pub run : IsPlainRun floor_brain c.max_steps (fresh_crew c ticks) after
  pub crew : IsFloorCrew c ticks after

-- the summary of a journal, whose newest entry stands first
abbrev pub report_text : List Entry → List ℕ
report_text past = summary_text (summary_of (reverse past))

-- the journal in its second version, a line, and the summary
abbrev pub run_text : List RootStart → List Entry → List ℕ
run_text roots past = journal_text roots (noted roots past) ++ codes "---\n" ++ report_text past

-- a run stopped before it was quiet: the journal has so many entries, which are as many as it may
-- have, or more
pub record StopsAt (max steps : ℕ) (after : CrewState Mind) : Type 0 where
  pub restless : ¬ IsQuiet floor_brain after
  pub full : max ≤ steps
  pub counted : steps ≡ length after.core.1

-- how a run that led to a crew ends
abbrev pub EndsWith : ℕ → CrewState Mind → FloorEnd → Type 0
EndsWith max after Quiet = IsQuiet floor_brain after
EndsWith max after (Unsettled steps) = StopsAt max steps after

-- the text of a floor's plain run, and how the run ends
pub record IsFloorRun (c : Config) (ticks : List Tick) (text : List ℕ) (end : FloorEnd) :
    Type 0 where
  pub after : CrewState Mind
  pub runs : RunsTo c ticks after
  pub told : text ≡ run_text (floor_start c) after.core.1
  pub ends : EndsWith c.max_steps after end

-- the text of a floor whose units took turns in some order, and how the run ends
pub record IsWorkedRun (c : Config) (ticks : List Tick) (text : List ℕ) (end : FloorEnd) :
    Type 0 where
  pub after : CrewState Mind
  pub crew : IsFloorCrew c ticks after
  pub told : text ≡ run_text (floor_start c) after.core.1
  pub ends : EndsWith c.max_steps after end
