-- The load: one floor on which ticks that a generator makes are run.
use Rattle.std.specs.Prelude.{◌≡◌, ℕ, ℤ, Bool, true, false, List, [], ◌∷◌, codes, pos}
use Rattle.df_config.specs.declared.config.Config.{Config}
use Rattle.df_config.specs.declared.pair.PairRow.{PairRow}
use Rattle.df_config.specs.declared.trader.TraderRow.{TraderRow}
use Rattle.df_booking.specs.CrewState.{CrewState}
use Rattle.df_floor_units.specs.Floor.{Mind}
use Rattle.df_gen.specs.Generated.{generated}
use Rattle.df_plain_floor.specs.PlainRun.{IsQuiet}
use Rattle.df_settling.specs.Settling.{floor_brain}
use Rattle.df_floor_run.specs.FloorRun.{RunsTo, report_text}

-- a pair of the load
abbrev pub load_pair : (first second : List ℕ) → PairRow
load_pair first second = record { first = first; second = second; threshold = pos 60 }

-- a trader of the load
abbrev pub load_trader : (pairs : List ℕ) → (quantity : ℤ) → (contrary : Bool) → TraderRow
load_trader pairs quantity contrary =
    record { pairs = pairs; quantity = quantity; slack = pos 20; contrary = contrary }

-- its pairs
abbrev pub load_pairs : List PairRow
load_pairs = load_pair (codes "AAA") (codes "BBB") ∷ load_pair (codes "CCC") (codes "DDD") ∷ []

-- its traders
abbrev pub load_traders : List TraderRow
load_traders = load_trader (0 ∷ 1 ∷ []) (pos 10) false ∷ load_trader (0 ∷ []) (pos 7) true
    ∷ load_trader (1 ∷ []) (pos 4) true ∷ []

-- the configuration of the load
abbrev pub load_config : Config
load_config = record {
  max_steps = 1_000_000;
  pairs = load_pairs;
  traders = load_traders;
  window = 8;
}

-- the summary of the plain run of the load on the first n ticks of a key; the run ends quiet
pub record IsLoadText (key n : ℕ) (text : List ℕ) : Type 0 where
  pub after : CrewState Mind
  pub runs : RunsTo load_config (generated key n) after
  pub quiet : IsQuiet floor_brain after
  pub told : text ≡ report_text after.core.1
