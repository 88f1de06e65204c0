-- How many entries a journal of a trading floor may have.
use Rattle.std.specs.Prelude.{ℕ, ◌+◌, ◌*◌, List, [], ◌∷◌, length, map}
use Rattle.df_config.specs.declared.config.Config.{Config}
use Rattle.df_config.specs.declared.trader.TraderRow.{TraderRow}
use Rattle.df_floor.specs.Brains.{floor_brains}
use Rattle.df_floor.specs.Starting.{floor_start}
use Rattle.df_floor_units.specs.Floor.{Mind, instance, next}
use Rattle.df_rules.specs.Follows.{Brain, Follows, brain_of}
use Rattle.df_rules.specs.Legal.{IsUnaided, Legal}
use Rattle.df_rules.specs.Start.{roots, rows}
use Rattle.df_start.specs.Begun.{begun}
use Rattle.df_ticks.specs.declared.tick.Tick.{Tick}
use Rattle.df_unit.specs.OwnState.{OwnState}
use Rattle.df_unit.specs.declared.entry.Entry.{Entry}

-- the roots of a floor as they begin
abbrev pub first_states : Config → List OwnState
first_states c = roots (map begun (floor_start c))

-- the step function of each unit of a floor
abbrev pub floor_brain : Brain Mind
floor_brain = brain_of next instance

-- a journal of a floor: each entry is the answer to the call, none is emitted, and each unit makes
-- the calls that it wants; the newest entry stands first
pub record IsFloorJournal (c : Config) (ticks : List Tick) (past : List Entry) : Type 0 where
  pub legal : Legal rows (first_states c) past
  pub unaided : IsUnaided past
  pub follows : Follows floor_brain rows (first_states c) (floor_brains c ticks) past

-- how many monitors traders have: one for each of their pairs
abbrev pub monitor_count : List TraderRow → ℕ
monitor_count [] = 0
monitor_count (t ∷ ts) = length t.pairs + monitor_count ts

-- the most entries with so many traders, monitors and ticks
abbrev pub most_entries : (traders monitors ticks : ℕ) → ℕ
most_entries traders monitors ticks =
    4 + 3 * traders + 2 * monitors + ticks * (3 + 59 * monitors)

-- the most entries of a floor
abbrev pub settling_bound : Config → List Tick → ℕ
settling_bound c ticks =
    most_entries (length c.traders) (monitor_count c.traders) (length ticks)
