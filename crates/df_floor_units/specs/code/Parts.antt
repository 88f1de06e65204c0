-- How many parts a unit's event has.
use Rattle.std.specs.Prelude.{ℕ}
use Rattle.df_floor_units.specs.declared.kind.Kind.{Kind}
use Rattle.df_floor_units.specs.declared.kind.Kind.TheVariants as kind

-- how many parts the event of a unit has at most: that of a broker four, and of any other one
abbrev pub most_parts : Kind → ℕ
most_parts (kind.Broker b) = 4
most_parts (kind.Exchange ticks from) = 1
most_parts kind.Regulator = 1
most_parts (kind.Trader t) = 1
most_parts (kind.Monitor a b pair) = 1
most_parts kind.Watcher = 1
