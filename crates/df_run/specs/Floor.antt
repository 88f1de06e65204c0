-- What a configuration and ticks make of a journal, and whether their floor comes to rest.
use Rattle.std.specs.Prelude.{ℕ, ◌<◌, ◌≤◌, List, length}
use Rattle.df_audit.specs.Sound.{IsSound}
use Rattle.df_config.specs.ConfigFile.{IsConfigFile}
use Rattle.df_config.specs.declared.config.Config.{Config}
use Rattle.df_floor.specs.Brains.{floor_brains}
use Rattle.df_floor.specs.Starting.{floor_start}
use Rattle.df_floor_run.specs.FloorRun.{IsFloorRun, IsWorkedRun}
use Rattle.df_floor_run.specs.declared.run.FloorEnd.{FloorEnd}
use Rattle.df_floor_run.specs.declared.run.FloorEnd.TheVariants.{Unsettled}
use Rattle.df_label.specs.declared.label.Label.{Label}
use Rattle.df_machine.specs.Journal.{firsts}
use Rattle.df_rules.specs.Follows.{Follows}
use Rattle.df_rules.specs.Purge.{purge}
use Rattle.df_rules.specs.Start.{rows}
use Rattle.df_settling.specs.Settling.{first_states, floor_brain, settling_bound}
use Rattle.df_ticks.specs.TickFile.{IsTickFile}
use Rattle.df_ticks.specs.declared.tick.Tick.{Tick}
use Rattle.df_unit.specs.declared.entry.Entry.{Entry}

-- the bytes are a configuration
abbrev pub IsConfiguration : List ℕ → Type 0
IsConfiguration bytes = (config : Config) × IsConfigFile bytes config

-- the bytes are a tick file
abbrev pub IsTicks : List ℕ → Type 0
IsTicks bytes = (ticks : List Tick) × IsTickFile bytes ticks

-- this holds of the configuration and the ticks that these bytes are
abbrev pub OfFloor : List ℕ → List ℕ → (Config → List Tick → Type 0) → Type 0
OfFloor one other P =
    (config : Config) × (ticks : List Tick) × IsConfigFile one config × IsTickFile other ticks
    × P config ticks

-- after a purge at the label the journal still follows the step functions of the floor's units
abbrev pub FollowsPurged : Config → List Tick → List Entry → Label → Type 0
FollowsPurged config ticks past l =
    Follows floor_brain rows (first_states config) (floor_brains config ticks)
    (purge rows (first_states config) l past)

-- the floor's journal is sound, each purge of it follows the floor's units, and the ticks bound it,
-- whatever the limit is
pub record IsFloorPast (config : Config) (ticks : List Tick) (past : List Entry) : Type 0 where
  pub sound : IsSound (firsts (floor_start config)) past
  pub purged : (l : Label) → FollowsPurged config ticks past l
  pub bounded : length past ≤ settling_bound config ticks

-- the plain run of the floor ends so, and this is the text of its journal and of its summary
pub record RunsFloor (config : Config) (ticks : List Tick) (end : FloorEnd) (text : List ℕ) :
    Type 0 where
  pub run : IsFloorRun config ticks text end
  pub past : IsFloorPast config ticks run.after.core.1

-- a run of the floor by workers, in some order of turns, ends so, and this is the text of its
-- journal and of its summary
pub record WorksFloor (config : Config) (ticks : List Tick) (end : FloorEnd) (text : List ℕ) :
    Type 0 where
  pub run : IsWorkedRun config ticks text end
  pub past : IsFloorPast config ticks run.after.core.1

-- the plain run of the floor has so many entries, at least as many as it may have, and isn't quiet;
-- there are never more than the floor's bound, so a limit above that cuts nothing off
abbrev pub IsCutAt : ℕ → Config → List Tick → Type 0
IsCutAt steps config ticks = (text : List ℕ) × IsFloorRun config ticks text (Unsettled steps)
    × (steps ≤ settling_bound config ticks)

-- the plain run of the floor is quiet before that
abbrev pub Settles : Config → List Tick → Type 0
Settles config ticks = (steps : ℕ) → ¬ IsCutAt steps config ticks

-- a run of the floor by workers may be cut off with so many entries: at least as many as it may have,
-- and no more than the floor's bound
pub record MayBeCutAt (steps : ℕ) (config : Config) (ticks : List Tick) : Type 0 where
  pub text : List ℕ
  pub run : IsWorkedRun config ticks text (Unsettled steps)
  pub bounded : steps ≤ settling_bound config ticks

-- no run of the floor is cut off, in whatever order turns are taken
abbrev pub SettlesAnyhow : Config → List Tick → Type 0
SettlesAnyhow config ticks = settling_bound config ticks < config.max_steps
