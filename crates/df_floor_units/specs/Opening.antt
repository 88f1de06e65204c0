-- The calls with which units of the floor open.
use Rattle.std.specs.Prelude.{ℕ, List, [], ◌∷◌, codes}
use Rattle.df_filter.specs.declared.clause.Clause.{Clause}
use Rattle.df_filter.specs.declared.clause.Test.TheVariants.{Present, Key}
use Rattle.df_filter.specs.declared.field_test.FieldTest.TheVariants as field
use Rattle.df_messages.specs.Drafts.{broker_tag, floor_tag, regulator_tag, trader_tag}
use Rattle.df_priv.specs.declared.need.Act.TheVariants.{Del}
use Rattle.df_priv.specs.declared.need.Half.TheVariants as half
use Rattle.df_unit.specs.declared.call.Call.{Call}
use Rattle.df_unit.specs.declared.call.Call.TheVariants.{ChangeOutLabel, Subscribe, SubscribeManaged}
use Rattle.df_floor_units.specs.declared.kind.Kind.{Kind}
use Rattle.df_floor_units.specs.declared.kind.Kind.TheVariants as kind

-- that a part of this name is there
abbrev pub present : List ℕ → Clause
present name = record { name = name; test = Present }

-- that a tick of this symbol is there
abbrev pub tick_of : List ℕ → Clause
tick_of symbol =
    record { name = codes "tick"; test = Key (codes "symbol") (field.TextEq symbol) }

-- the call that lets out what the tag holds back
abbrev pub release_of : ℕ → Call
release_of number = ChangeOutLabel half.S Del (floor_tag number)

-- a broker lets what it tells out, and asks for orders
abbrev pub broker_opening : List Call
broker_opening = release_of broker_tag ∷ Subscribe (present (codes "order") ∷ []) ∷ []

-- a regulator asks for trades whose parties are told, by instances
abbrev pub regulator_opening : List Call
regulator_opening = SubscribeManaged (present (codes "trade") ∷ present (codes "who") ∷ []) ∷ []

-- a trader lets its orders out, and asks for matches (0) and fills (1)
abbrev pub trader_opening : ℕ → List Call
trader_opening number = release_of (trader_tag number)
    ∷ Subscribe (present (codes "match") ∷ []) ∷ Subscribe (present (codes "fill") ∷ []) ∷ []

-- a monitor asks for the ticks of both symbols
abbrev pub monitor_opening : List ℕ → List ℕ → List Call
monitor_opening a b = Subscribe (tick_of a ∷ []) ∷ Subscribe (tick_of b ∷ []) ∷ []

-- the regulator's instance lets its warnings out
abbrev pub watcher_opening : List Call
watcher_opening = release_of regulator_tag ∷ []

-- the calls with which a unit opens
abbrev pub opening : Kind → List Call
opening (kind.Exchange ticks from) = []
opening (kind.Broker b) = broker_opening
opening kind.Regulator = regulator_opening
opening (kind.Trader t) = trader_opening t.number
opening (kind.Monitor a b pair) = monitor_opening a b
opening kind.Watcher = watcher_opening
