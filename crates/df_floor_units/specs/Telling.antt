-- What units of the floor tell: the parts of the event that a unit is to publish next.
use Rattle.std.specs.Prelude.{ℕ, true, false, if◌then◌else◌, nat_lt, List, [], ◌∷◌, length, Option, Some, None, slice_get, ◌+◌}
use Rattle.std.specs.Ordering.{int_eq}
use Rattle.df_messages.specs.Drafts.{match_draft, offer_draft, tick_draft, warning_draft}
use Rattle.df_messages.specs.declared.draft.Draft.{Draft}
use Rattle.df_messages.specs.declared.message.Match.{Match}
use Rattle.df_pairs.specs.declared.signal.Signal.{Signal}
use Rattle.df_ticks.specs.declared.tick.Tick.{Tick}
use Rattle.df_floor_units.specs.Broking.{trade_parts}
use Rattle.df_floor_units.specs.Trading.{counted, offer_of}
use Rattle.df_floor_units.specs.declared.broker.Broker.{Broker}
use Rattle.df_floor_units.specs.declared.heard.Heard.{Heard}
use Rattle.df_floor_units.specs.declared.heard.Heard.TheVariants as heard
use Rattle.df_floor_units.specs.declared.kind.Kind.{Kind}
use Rattle.df_floor_units.specs.declared.kind.Kind.TheVariants as kind
use Rattle.df_floor_units.specs.declared.trader.Trader.{Trader}

-- the part of a tick, if there is one
abbrev pub tick_parts : Option Tick → List Draft
tick_parts None = []
tick_parts (Some t) = tick_draft t ∷ []

-- a monitor's match of its two symbols
abbrev pub match_of : List ℕ → List ℕ → Signal → Match
match_of a b s =
    record { first = a; second = b; first_price = s.first; second_price = s.second; side = s.side }

-- what a monitor tells
abbrev pub monitor_parts : List ℕ → List ℕ → Heard → List Draft
monitor_parts a b (heard.Signal s) = match_draft (match_of a b s) ∷ []
monitor_parts a b _ = []

-- what a trader tells: the order for the first symbol, and then that for the second
abbrev pub trader_parts : Trader → Heard → List Draft
trader_parts t (heard.Match m) = offer_draft (offer_of t m false) ∷ []
trader_parts t (heard.Second m) = offer_draft (offer_of t m true) ∷ []
trader_parts t _ = []

-- what the regulator's instance tells: a warning where one trader bought of itself
abbrev pub watcher_parts : Heard → List Draft
watcher_parts (heard.Trade p number) =
    if int_eq p.buyer p.seller then warning_draft number ∷ [] else []
watcher_parts _ = []

-- what a broker tells: the trades of an order, one after another
abbrev pub broker_parts : Broker → Heard → List Draft
broker_parts b (heard.Trades ts from) = trade_parts b.next_trade (slice_get ts from)
broker_parts b _ = []

-- the parts of the event that is told next; none where nothing is
abbrev pub parts_of : Kind → Heard → List Draft
parts_of (kind.Exchange ticks from) h = tick_parts (slice_get ticks from)
parts_of (kind.Broker b) h = broker_parts b h
parts_of kind.Regulator h = []
parts_of (kind.Trader t) h = trader_parts t h
parts_of (kind.Monitor a b pair) h = monitor_parts a b h
parts_of kind.Watcher h = watcher_parts h

-- the place behind one, up to the end of a list
abbrev pub passed_place : {A : Type 0} → List A → ℕ → ℕ
passed_place xs from = if nat_lt from (length xs) then from + 1 else from

-- what is remembered once it was told
abbrev pub passed_kind : Kind → Kind
passed_kind (kind.Exchange ticks from) = kind.Exchange ticks (passed_place ticks from)
passed_kind (kind.Broker b) = kind.Broker (record b { next_trade = counted b.next_trade })
passed_kind kind.Regulator = kind.Regulator
passed_kind (kind.Trader t) = kind.Trader (record t { next_order = counted t.next_order })
passed_kind (kind.Monitor a b pair) = kind.Monitor a b pair
passed_kind kind.Watcher = kind.Watcher

-- what is still to be told: of a match the second order, and the trades behind the first
abbrev pub passed_heard : Heard → Heard
passed_heard (heard.Match m) = heard.Second m
passed_heard (heard.Trades ts from) = heard.Trades ts (passed_place ts from)
passed_heard _ = heard.Nothing
