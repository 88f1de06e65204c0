-- The parts that the units of a floor play, whatever they remember, and the events that a unit may still tell.
use Rattle.df_settling.proofs.Names.{◌≡◌, ◌≢◌, ℕ, zero, suc, ◌+◌, ◌-◌, ◌≤◌, ◌<◌, List, [], ◌∷◌, Bool, true, false, true≢false, refl, sym, ap, cond, ◌∙◌, Option, Some, None, length, arith, ℤ, ltb-true, lt-ltb, nat_lt, slice_get, slice_get_within, Trade, Label, broker_tag, endorsed, exchange_tag, floor_tag, match_draft, offer_draft, public, regulator_tag, secret, tick_draft, trader_tag, warning_draft, match_in, number_in, offer_in, parties_in, Draft, Match, Offer, Tick, Call, PartRead, submitted_to, order_of, takes, trade_event, trade_parts, acted_heard, acted_kind, first_of, heard_match, heard_of, heard_offer, heard_parties, heard_quote, heard_signal, heard_trade, quote_in, reads_of, signal_at, broker_opening, monitor_opening, opening, regulator_opening, trader_opening, watcher_opening, parts_of, passed_heard, passed_kind, passed_place, tick_parts, Heard, Kind}
use Rattle.std.specs.Ordering.{int_eq}
use Rattle.df_messages.specs.declared.message.Parties.{Parties}
use Rattle.df_pairs.specs.declared.signal.Signal.{Signal}
use Rattle.df_floor_units.specs.declared.broker.Broker.{Broker as Books}
use Rattle.df_floor_units.specs.declared.heard.Heard.TheVariants as heard
use Rattle.df_floor_units.specs.declared.kind.Kind.TheVariants as kind
use Rattle.df_settling.proofs.Balanced.{balanced}

pub data Role : Type 0 where
  Exchange : Role
  Broker : Role
  Regulator : Role
  Trader : ℕ → Role
  Monitor : ℕ → List ℕ → List ℕ → Role
  Watcher : Role

-- the part of a unit of this kind; a monitor's trader isn't told by its kind
abbrev pub role_of : ℕ → Kind → Role
role_of j (kind.Exchange ticks from) = Exchange
role_of j (kind.Broker b) = Broker
role_of j kind.Regulator = Regulator
role_of j (kind.Trader t) = Trader t.number
role_of j (kind.Monitor a b pair) = Monitor j a b
role_of j kind.Watcher = Watcher

-- a root of a floor: the two symbols of a monitor differ
abbrev pub Apart : Role → Type 0
Apart (Monitor j a b) = a ≢ b
Apart Watcher = ⊥
Apart _ = Unit {0}

-- the label at which a unit begins
abbrev pub label_of : Role → Label
label_of Exchange = endorsed
label_of Broker = secret broker_tag
label_of Regulator = public
label_of (Trader j) = secret (trader_tag j)
label_of (Monitor j a b) = record { s = floor_tag (trader_tag j) ∷ []; i = floor_tag exchange_tag ∷ [] }
label_of Watcher = secret regulator_tag

-- the output label after the opening
abbrev pub out_label : Role → Label
out_label Exchange = endorsed
out_label Broker = public
out_label Regulator = public
out_label (Trader j) = public
out_label (Monitor j a b) = label_of (Monitor j a b)
out_label Watcher = public

-- the calls with which it opens
abbrev pub opening_by : Role → List Call
opening_by Exchange = []
opening_by Broker = broker_opening
opening_by Regulator = regulator_opening
opening_by (Trader j) = trader_opening j
opening_by (Monitor j a b) = monitor_opening a b
opening_by Watcher = watcher_opening

pub opening_is : (j : ℕ) (k : Kind) → opening k ≡ opening_by (role_of j k)
opening_is j (kind.Exchange ticks from) = refl
opening_is j (kind.Broker b) = refl
opening_is j kind.Regulator = refl
opening_is j (kind.Trader t) = refl
opening_is j (kind.Monitor a b pair) = refl
opening_is j kind.Watcher = refl

-- how many parts it reads of an event for a subscription
abbrev pub read_count : Role → ℕ
read_count Exchange = 0
read_count Broker = 1
read_count Regulator = 0
read_count (Trader j) = 1
read_count (Monitor j a b) = 1
read_count Watcher = 2

pub reads_are : (j : ℕ) (k : Kind) (sub : ℕ) → length (reads_of k sub) ≡ read_count (role_of j k)
reads_are j (kind.Exchange ticks from) sub = refl
reads_are j (kind.Broker b) sub = refl
reads_are j kind.Regulator sub = refl
reads_are j (kind.Trader t) zero = refl
reads_are j (kind.Trader t) (suc sub) = refl
reads_are j (kind.Monitor a b pair) sub = refl
reads_are j kind.Watcher sub = refl

-- how many events it may tell of one that came for a subscription; an order that rests is worth one too
abbrev pub leads_to : Role → ℕ → ℕ
leads_to Exchange sub = 0
leads_to Broker sub = 1
leads_to Regulator sub = 0
leads_to (Trader j) zero = 2
leads_to (Trader j) (suc sub) = 0
leads_to (Monitor j a b) sub = 1
leads_to Watcher sub = 1

-- how many parts an event has
abbrev pub size_of : Role → ℕ
size_of Exchange = 1
size_of Broker = 4
size_of Regulator = 1
size_of (Trader j) = 1
size_of (Monitor j a b) = 1
size_of Watcher = 1

-- the parts are an event that it tells
abbrev pub Good : Role → List Draft → Type 0
Good Exchange ds = (t : Tick) × (ds ≡ tick_draft t ∷ [])
Good Broker ds = (n : ℤ) × (t : Trade) × (ds ≡ trade_event n t)
Good Regulator ds = ⊥
Good (Trader j) ds = (o : Offer) × (ds ≡ offer_draft o ∷ [])
Good (Monitor j a b) ds = (m : Match) × (ds ≡ match_draft m ∷ [])
Good Watcher ds = (n : ℤ) × (ds ≡ warning_draft n ∷ [])

pub good_size : (role : Role) (ds : List Draft) → Good role ds → length ds ≡ size_of role
good_size Exchange ds g = ap length g.1
good_size Broker ds g = ap length g.2
good_size Regulator ds g = absurd g
good_size (Trader j) ds g = ap length g.1
good_size (Monitor j a b) ds g = ap length g.1
good_size Watcher ds g = ap length g.1

-- how many events are to be told

abbrev pub broker_tells : Heard → ℕ
broker_tells (heard.Trades ts from) = length ts - from
broker_tells _ = 0

abbrev trader_tells : Heard → ℕ
trader_tells (heard.Match m) = 2
trader_tells (heard.Second m) = 1
trader_tells _ = 0

abbrev monitor_tells : Heard → ℕ
monitor_tells (heard.Signal s) = 1
monitor_tells _ = 0

abbrev watcher_tells : Heard → ℕ
watcher_tells (heard.Trade p n) = 1
watcher_tells _ = 0

abbrev pub to_tell : Kind → Heard → ℕ
to_tell (kind.Exchange ticks from) x = length ticks - from
to_tell (kind.Broker b) x = broker_tells x
to_tell kind.Regulator x = 0
to_tell (kind.Trader t) x = trader_tells x
to_tell (kind.Monitor a b pair) x = monitor_tells x
to_tell kind.Watcher x = watcher_tells x

-- how many orders rest
abbrev pub resting : Kind → ℕ
resting (kind.Broker b) = length b.book
resting _ = 0

-- how many events a unit may tell before it is handed another
abbrev pub may_tell : Kind → Heard → ℕ
may_tell k x = to_tell k x + resting k

-- an event is told, and then one less may be
pub record Tells (j : ℕ) (k : Kind) (x : Heard) : Type 0 where
  pub good : Good (role_of j k) (parts_of k x)
  pub less : may_tell k x ≡ suc (may_tell (passed_kind k) (passed_heard x))

-- a place of a list, and the one behind it
behind : {A : Type 0} (xs : List A) (from : ℕ) (a : A) → slice_get xs from ≡ Some a → length xs - from ≡ suc (length xs - passed_place xs from)
behind xs from a e = go (nat_lt from (length xs)) refl
  where
    go : (b : Bool) → nat_lt from (length xs) ≡ b → length xs - from ≡ suc (length xs - cond b (from + 1) from)
    go true h = let l = ltb-true from (length xs) h in omega arith
    go false h = let l = slice_get_within xs from a e in absurd (true≢false (sym (lt-ltb from (length xs) l) ∙ h))

tells_ticks : (j : ℕ) (ticks : List Tick) (from : ℕ) (x : Heard) (o : Option Tick) → slice_get ticks from ≡ o → nat_lt 0 (length (tick_parts o)) ≡ true →
    Tells j (kind.Exchange ticks from) x
tells_ticks j ticks from x None e h = absurd (true≢false (sym h))
tells_ticks j ticks from x (Some t) e h = record {
  good = (t, ap tick_parts e);
  less = let b = behind ticks from t e in omega arith;
}

tells_trades : (j : ℕ) (b : Books) (ts : List Trade) (from : ℕ) (o : Option Trade) → slice_get ts from ≡ o →
    nat_lt 0 (length (trade_parts b.next_trade o)) ≡ true → Tells j (kind.Broker b) (heard.Trades ts from)
tells_trades j b ts from None e h = absurd (true≢false (sym h))
tells_trades j b ts from (Some t) e h = record {
  good = (b.next_trade, t, ap (trade_parts b.next_trade) e);
  less = let d = behind ts from t e in omega arith;
}

tells_broker : (j : ℕ) (b : Books) (x : Heard) → nat_lt 0 (length (parts_of (kind.Broker b) x)) ≡ true → Tells j (kind.Broker b) x
tells_broker j b (heard.Trades ts from) h = tells_trades j b ts from (slice_get ts from) refl h
tells_broker j b _ h = absurd (true≢false (sym h))

tells_trader : (j : ℕ) (t : _) (x : Heard) → nat_lt 0 (length (parts_of (kind.Trader t) x)) ≡ true → Tells j (kind.Trader t) x
tells_trader j t (heard.Match m) h = record { good = (_, refl); less = omega arith }
tells_trader j t (heard.Second m) h = record { good = (_, refl); less = omega arith }
tells_trader j t _ h = absurd (true≢false (sym h))

tells_monitor : (j : ℕ) (a b : List ℕ) (pair : _) (x : Heard) → nat_lt 0 (length (parts_of (kind.Monitor a b pair) x)) ≡ true →
    Tells j (kind.Monitor a b pair) x
tells_monitor j a b pair (heard.Signal s) h = record { good = (_, refl); less = omega arith }
tells_monitor j a b pair _ h = absurd (true≢false (sym h))

tells_warning : (j : ℕ) (p : Parties) (n : ℤ) (b : Bool) → int_eq p.buyer p.seller ≡ b → nat_lt 0 (length (cond b (warning_draft n ∷ []) [])) ≡ true →
    Tells j kind.Watcher (heard.Trade p n)
tells_warning j p n true e h = record { good = (n, ap (λ (b : Bool). cond b (warning_draft n ∷ []) []) e); less = omega arith }
tells_warning j p n false e h = absurd (true≢false (sym h))

tells_watcher : (j : ℕ) (x : Heard) → nat_lt 0 (length (parts_of kind.Watcher x)) ≡ true → Tells j kind.Watcher x
tells_watcher j (heard.Trade p n) h = tells_warning j p n (int_eq p.buyer p.seller) refl h
tells_watcher j _ h = absurd (true≢false (sym h))

pub tells : (j : ℕ) (k : Kind) (x : Heard) → nat_lt 0 (length (parts_of k x)) ≡ true → Tells j k x
tells j (kind.Exchange ticks from) x h = tells_ticks j ticks from x (slice_get ticks from) refl h
tells j (kind.Broker b) x h = tells_broker j b x h
tells j kind.Regulator x h = absurd (true≢false (sym h))
tells j (kind.Trader t) x h = tells_trader j t x h
tells j (kind.Monitor a b pair) x h = tells_monitor j a b pair x h
tells j kind.Watcher x h = tells_watcher j x h

-- memory changes, and the part that is played doesn't

pub role_passed : (j : ℕ) (k : Kind) → role_of j (passed_kind k) ≡ role_of j k
role_passed j (kind.Exchange ticks from) = refl
role_passed j (kind.Broker b) = refl
role_passed j kind.Regulator = refl
role_passed j (kind.Trader t) = refl
role_passed j (kind.Monitor a b pair) = refl
role_passed j kind.Watcher = refl

pub role_acted : (j : ℕ) (k : Kind) (x : Heard) → role_of j (acted_kind k x) ≡ role_of j k
role_acted j (kind.Monitor a b pair) (heard.Quote first price) = refl
role_acted j (kind.Broker b) (heard.Offer o) = refl
role_acted j k x = refl

-- what is heard of an event leads to no more events than it may

leads_quote : (a b : List ℕ) (pair : _) (o : Option (Bool × ℤ)) →
    may_tell (acted_kind (kind.Monitor a b pair) (heard_quote o)) (acted_heard (kind.Monitor a b pair) (heard_quote o)) ≤ 1
leads_quote a b pair None = omega arith
leads_quote a b pair (Some q) = go (signal_at pair q.0 q.1)
  where
    go : (s : Option Signal) → monitor_tells (heard_signal s) + 0 ≤ 1
    go None = omega arith
    go (Some s) = omega arith

leads_match : (t : _) (o : Option Match) → may_tell (acted_kind (kind.Trader t) (heard_match o)) (acted_heard (kind.Trader t) (heard_match o)) ≤ 2
leads_match t None = omega arith
leads_match t (Some m) = omega arith

leads_offer : (b : Books) (o : Option Offer) → may_tell (acted_kind (kind.Broker b) (heard_offer o)) (acted_heard (kind.Broker b) (heard_offer o))
    ≤ 1 + length b.book
leads_offer b None = omega arith
leads_offer b (Some o) = go (takes b o)
  where
    go : (c : Bool) → broker_tells (cond c (heard.Trades (submitted_to b o).trades 0) heard.Nothing) + length
        (cond c (record b { book = (submitted_to b o).resting }) b).book ≤ 1 + length b.book
    go true = let e = balanced (order_of o) b.book in omega arith
    go false = omega arith

leads_trade : (y : Heard) (o : Option ℤ) → may_tell (acted_kind kind.Watcher (heard_trade y o)) (acted_heard kind.Watcher (heard_trade y o)) ≤ 1
leads_trade (heard.Parties p) (Some n) = omega arith
leads_trade (heard.Parties p) None = omega arith
leads_trade _ o = omega arith

leads_parties : (o : Option Parties) → may_tell (acted_kind kind.Watcher (heard_parties o)) (acted_heard kind.Watcher (heard_parties o)) ≤ 1
leads_parties None = omega arith
leads_parties (Some p) = omega arith

-- as much as what is heard of an event leads to, once it is dropped
abbrev pub Leads : ℕ → Kind → ℕ → Heard → Type 0
Leads j k sub x = may_tell (acted_kind k x) (acted_heard k x) ≤ leads_to (role_of j k) sub + resting k

pub leads : (j : ℕ) (k : Kind) (sub place : ℕ) (x : Heard) (ps : List PartRead) → 0 < length (reads_of k sub) → Leads j k sub (heard_of k sub place x ps)
leads j (kind.Exchange ticks from) sub place x ps h = absurd (omega arith)
leads j (kind.Broker b) sub place x ps h = leads_offer b (first_of offer_in ps)
leads j kind.Regulator sub place x ps h = absurd (omega arith)
leads j (kind.Trader t) zero place x ps h = leads_match t (first_of match_in ps)
leads j (kind.Trader t) (suc sub) place x ps h = omega arith
leads j (kind.Monitor a b pair) sub place x ps h = leads_quote a b pair (first_of (quote_in a b) ps)
leads j kind.Watcher sub zero x ps h = leads_parties (first_of parties_in ps)
leads j kind.Watcher sub (suc place) x ps h = leads_trade x (first_of number_in ps)
