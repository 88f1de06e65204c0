-- The brains of a floor's roots, in the order of the roots.
use Rattle.std.specs.Prelude.{ℕ, ◌+◌, List, [], ◌∷◌, ◌++◌, length, Option, Some, None, slice_get, pos}
use Rattle.df_config.specs.declared.config.Config.{Config}
use Rattle.df_config.specs.declared.pair.PairRow.{PairRow}
use Rattle.df_config.specs.declared.trader.TraderRow.{TraderRow}
use Rattle.df_floor_units.specs.Broking.{number_of}
use Rattle.df_floor_units.specs.Floor.{Mind, begins}
use Rattle.df_floor_units.specs.declared.kind.Kind.TheVariants as kind
use Rattle.df_pairs.specs.Divergence.{fresh}
use Rattle.df_ticks.specs.declared.tick.Tick.{Tick}

-- a broker of so many traders, with whom no order rests
abbrev pub broker_brain : ℕ → Mind
broker_brain traders =
    begins (kind.Broker (record { book = []; traders = traders; next_trade = pos 0 }))

-- a trader of a number, by its terms
abbrev pub trader_brain : ℕ → TraderRow → Mind
trader_brain number t = begins (kind.Trader (record {
  number = number;
  quantity = t.quantity;
  slack = number_of t.slack;
  contrary = t.contrary;
  next_order = pos 0;
}))

-- traders in order, the first of this number
abbrev pub trader_brains : ℕ → List TraderRow → List Mind
trader_brains number [] = []
trader_brains number (t ∷ ts) = trader_brain number t ∷ trader_brains (number + 1) ts

-- the monitor of a pair, if there is one
abbrev pub watched : ℕ → Option PairRow → List Mind
watched window None = []
watched window (Some p) = begins (kind.Monitor p.first p.second (fresh window p.threshold)) ∷ []

-- the monitors of pairs by their numbers
abbrev pub monitors_of : ℕ → List PairRow → List ℕ → List Mind
monitors_of window pairs [] = []
monitors_of window pairs (n ∷ ns) =
    watched window (slice_get pairs n) ++ monitors_of window pairs ns

-- the monitors of traders in order
abbrev pub monitor_brains : ℕ → List PairRow → List TraderRow → List Mind
monitor_brains window pairs [] = []
monitor_brains window pairs (t ∷ ts) =
    monitors_of window pairs t.pairs ++ monitor_brains window pairs ts

-- the exchange with its ticks, the broker, the regulator, the traders, and the monitors
abbrev pub floor_brains : Config → List Tick → List Mind
floor_brains c ticks = begins (kind.Exchange ticks 0) ∷ broker_brain (length c.traders)
    ∷ begins kind.Regulator ∷ trader_brains 0 c.traders ++ monitor_brains c.window c.pairs c.traders
