-- The messages of a trading floor: which values are which message.
use Rattle.std.specs.Prelude.{ℕ, ◌==◌, Bool, ◌||◌, if◌then◌else◌, List, Option, Some, None, ℤ, pos, negsuc, codes}
use Rattle.std.specs.Ordering.{int_eq}
use Rattle.df_frozen.specs.Plain.{Plain}
use Rattle.df_ticks.specs.declared.tick.Tick.{Tick}
use Rattle.df_messages.specs.Fields.{field_count, int_field, symbol_field, flag_of}
use Rattle.df_messages.specs.declared.message.Match.{Match}
use Rattle.df_messages.specs.declared.message.Offer.{Offer}
use Rattle.df_messages.specs.declared.message.Parties.{Parties}
use Rattle.df_messages.specs.declared.read.TickRead.{TickRead}

-- a tick of its fields, where both are there
abbrev pub tick_with : Option ℤ → Option (List ℕ) → Option Tick
tick_with (Some price) (Some symbol) = Some (record { price = price; symbol = symbol })
tick_with (Some price) None = None
tick_with None symbol = None

-- the tick that a value is
abbrev pub tick_in : Plain → Option Tick
tick_in p =
    if field_count p == 2
    then tick_with (int_field (codes "price") p) (symbol_field (codes "symbol") p) else None

-- the side of a match, which is 1 or -1
abbrev pub side_of : Option ℤ → Option ℤ
side_of None = None
side_of (Some n) = if int_eq n (pos 1) || int_eq n (negsuc 0) then Some n else None

-- a match of its fields, where all are there
abbrev pub match_with : Option (List ℕ) → Option (List ℕ) → Option ℤ → Option ℤ → Option ℤ →
    Option Match
match_with (Some a) (Some b) (Some pa) (Some pb) (Some side) =
    Some (record { first = a; second = b; first_price = pa; second_price = pb; side = side })
match_with (Some a) (Some b) (Some pa) (Some pb) None = None
match_with (Some a) (Some b) (Some pa) None side = None
match_with (Some a) (Some b) None pb side = None
match_with (Some a) None pa pb side = None
match_with None b pa pb side = None

-- the match that a value is
abbrev pub match_in : Plain → Option Match
match_in p =
    if field_count p == 5
    then match_with (symbol_field (codes "a") p) (symbol_field (codes "b") p)
    (int_field (codes "pa") p) (int_field (codes "pb") p) (side_of (int_field (codes "side") p))
    else None

-- an order of its fields, where all are there
abbrev pub offer_with : Option ℤ → Option ℤ → Option ℤ → Option Bool → Option (List ℕ) →
    Option ℤ → Option Offer
offer_with (Some id) (Some limit) (Some qty) (Some sell) (Some symbol) (Some trader) =
    Some (record {
      id = id;
      limit = limit;
      qty = qty;
      sell = sell;
      symbol = symbol;
      trader = trader;
    })
offer_with (Some id) (Some limit) (Some qty) (Some sell) (Some symbol) None = None
offer_with (Some id) (Some limit) (Some qty) (Some sell) None trader = None
offer_with (Some id) (Some limit) (Some qty) None symbol trader = None
offer_with (Some id) (Some limit) None sell symbol trader = None
offer_with (Some id) None qty sell symbol trader = None
offer_with None limit qty sell symbol trader = None

-- the order that a value is; whether a book takes it is not asked here
abbrev pub offer_in : Plain → Option Offer
offer_in p =
    if field_count p == 6
    then offer_with (int_field (codes "id") p) (int_field (codes "limit") p)
    (int_field (codes "qty") p) (flag_of (int_field (codes "sell") p))
    (symbol_field (codes "symbol") p) (int_field (codes "trader") p)
    else None

-- the parties of a trade of its fields, where both are there
abbrev pub parties_with : Option ℤ → Option ℤ → Option Parties
parties_with (Some buyer) (Some seller) = Some (record { buyer = buyer; seller = seller })
parties_with (Some buyer) None = None
parties_with None seller = None

-- the parties of a trade that a value is
abbrev pub parties_in : Plain → Option Parties
parties_in p =
    if field_count p == 2
    then parties_with (int_field (codes "buyer") p) (int_field (codes "seller") p) else None

-- the number of a trade of its fields, where all are there
abbrev pub number_with : Option ℤ → Option ℤ → Option ℤ → Option (List ℕ) → Option ℤ
number_with (Some number) (Some price) (Some qty) (Some symbol) = Some number
number_with (Some number) (Some price) (Some qty) None = None
number_with (Some number) (Some price) None symbol = None
number_with (Some number) None qty symbol = None
number_with None price qty symbol = None

-- the number of the trade that a value is
abbrev pub number_in : Plain → Option ℤ
number_in p =
    if field_count p == 4
    then number_with (int_field (codes "number") p) (int_field (codes "price") p)
    (int_field (codes "qty") p) (symbol_field (codes "symbol") p)
    else None

-- a tick that was read, as a tick
abbrev pub tick_of : TickRead → Tick
tick_of t = record { price = t.price; symbol = t.symbol.now }
