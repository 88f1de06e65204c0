-- What units of the floor hear: which parts of an event they read, and what they take from them.
use Rattle.std.specs.Prelude.{ℕ, zero, suc, Bool, true, false, if◌then◌else◌, List, [], ◌∷◌, Option, Some, None, ℤ, codes, bytes_eq}
use Rattle.df_frozen.specs.Plain.{Plain}
use Rattle.df_messages.specs.Messages.{match_in, number_in, offer_in, parties_in, tick_in}
use Rattle.df_messages.specs.declared.message.Match.{Match}
use Rattle.df_messages.specs.declared.message.Offer.{Offer}
use Rattle.df_messages.specs.declared.message.Parties.{Parties}
use Rattle.df_pairs.specs.Divergence.{Watched, after, signal_of}
use Rattle.df_pairs.specs.declared.signal.Signal.{Signal}
use Rattle.df_ticks.specs.declared.tick.Tick.{Tick}
use Rattle.df_unit.specs.declared.parts.PartRead.{PartRead}
use Rattle.df_floor_units.specs.Broking.{after_offer, submitted_to, takes}
use Rattle.df_floor_units.specs.declared.broker.Broker.{Broker}
use Rattle.df_floor_units.specs.declared.heard.Heard.{Heard}
use Rattle.df_floor_units.specs.declared.heard.Heard.TheVariants as heard
use Rattle.df_floor_units.specs.declared.kind.Kind.{Kind}
use Rattle.df_floor_units.specs.declared.kind.Kind.TheVariants as kind

-- the names that a unit reads of an event that came for a subscription
abbrev pub reads_of : Kind → ℕ → List (List ℕ)
reads_of (kind.Exchange ticks from) sub = []
reads_of (kind.Broker b) sub = codes "order" ∷ []
reads_of kind.Regulator sub = []
reads_of (kind.Trader t) zero = codes "match" ∷ []
reads_of (kind.Trader t) (suc sub) = codes "fill" ∷ []
reads_of (kind.Monitor a b pair) sub = codes "tick" ∷ []
reads_of kind.Watcher sub = codes "who" ∷ codes "trade" ∷ []

-- the first, or else the second
abbrev pub either : {A : Type 0} → Option A → Option A → Option A
either (Some x) o = Some x
either None o = o

-- what the first part says whose value is such a message
abbrev pub first_of : {A : Type 0} → (Plain → Option A) → List PartRead → Option A
first_of f [] = None
first_of f (p ∷ ps) = either (f p.value) (first_of f ps)

-- a price of one of two symbols: whether it is of the first
abbrev pub quote_with : List ℕ → List ℕ → Option Tick → Option (Bool × ℤ)
quote_with a b None = None
quote_with a b (Some t) =
    if bytes_eq a t.symbol then Some (true, t.price)
    else if bytes_eq b t.symbol then Some (false, t.price) else None

-- the price of one of two symbols that a value is
abbrev pub quote_in : List ℕ → List ℕ → Plain → Option (Bool × ℤ)
quote_in a b p = quote_with a b (tick_in p)

-- a price, if there is one
abbrev pub heard_quote : Option (Bool × ℤ) → Heard
heard_quote None = heard.Nothing
heard_quote (Some q) = heard.Quote q.0 q.1

-- a match, if there is one
abbrev pub heard_match : Option Match → Heard
heard_match None = heard.Nothing
heard_match (Some m) = heard.Match m

-- an order, if there is one
abbrev pub heard_offer : Option Offer → Heard
heard_offer None = heard.Nothing
heard_offer (Some o) = heard.Offer o

-- parties, if there are any
abbrev pub heard_parties : Option Parties → Heard
heard_parties None = heard.Nothing
heard_parties (Some p) = heard.Parties p

-- parties with the number of their trade
abbrev pub heard_trade : Heard → Option ℤ → Heard
heard_trade (heard.Parties p) (Some number) = heard.Trade p number
heard_trade _ _ = heard.Nothing

-- what a trader takes from an event: of a match all, and of a fill nothing
abbrev pub heard_by_trader : ℕ → List PartRead → Heard
heard_by_trader zero ps = heard_match (first_of match_in ps)
heard_by_trader (suc sub) ps = heard.Nothing

-- what the regulator's instance takes: the parties, and then the number
abbrev pub heard_by_watcher : ℕ → Heard → List PartRead → Heard
heard_by_watcher zero h ps = heard_parties (first_of parties_in ps)
heard_by_watcher (suc place) h ps = heard_trade h (first_of number_in ps)

-- what a unit knows after a read, by its subscription and the place of the read
abbrev pub heard_of : Kind → ℕ → ℕ → Heard → List PartRead → Heard
heard_of (kind.Exchange ticks from) sub place h ps = heard.Nothing
heard_of (kind.Broker b) sub place h ps = heard_offer (first_of offer_in ps)
heard_of kind.Regulator sub place h ps = heard.Nothing
heard_of (kind.Trader t) sub place h ps = heard_by_trader sub ps
heard_of (kind.Monitor a b pair) sub place h ps = heard_quote (first_of (quote_in a b) ps)
heard_of kind.Watcher sub place h ps = heard_by_watcher place h ps

-- what a monitor knows after the divergence rule
abbrev pub heard_signal : Option Signal → Heard
heard_signal None = heard.Nothing
heard_signal (Some s) = heard.Signal s

-- the signal of a price
abbrev pub signal_at : Watched → Bool → ℤ → Option Signal
signal_at w first price = signal_of w.side (after w first price).side
    (after w first price).first (after w first price).second

-- the trades of an order that is taken
abbrev pub heard_trades : Broker → Offer → Heard
heard_trades b o = if takes b o then heard.Trades (submitted_to b o).trades 0 else heard.Nothing

-- what a unit remembers once it has dropped the event
abbrev pub acted_kind : Kind → Heard → Kind
acted_kind (kind.Monitor a b pair) (heard.Quote first price) =
    kind.Monitor a b (after pair first price)
acted_kind (kind.Broker b) (heard.Offer o) = kind.Broker (after_offer b o)
acted_kind k h = k

-- what it then has to tell
abbrev pub acted_heard : Kind → Heard → Heard
acted_heard (kind.Monitor a b pair) (heard.Quote first price) =
    heard_signal (signal_at pair first price)
acted_heard (kind.Broker b) (heard.Offer o) = heard_trades b o
acted_heard k h = h
