-- The parts of the messages of a trading floor: label, name and value.
use Rattle.std.specs.Prelude.{ℕ, ◌+◌, Bool, if◌then◌else◌, List, [], ◌∷◌, ℤ, pos, codes}
use Rattle.df_book.specs.declared.trade.Trade.{Trade}
use Rattle.df_frozen.specs.Plain.{Plain, int, words, entries, from_pairs}
use Rattle.df_label.specs.declared.label.Label.{Label}
use Rattle.df_ticks.specs.declared.tick.Tick.{Tick}
use Rattle.df_messages.specs.declared.draft.Draft.{Draft}
use Rattle.df_messages.specs.declared.message.Match.{Match}
use Rattle.df_messages.specs.declared.message.Offer.{Offer}

-- a tag of the floor by its number
abbrev pub floor_tag : ℕ → List ℕ
floor_tag number = number ∷ []

-- the tag by which the exchange vouches
abbrev pub exchange_tag : ℕ
exchange_tag = 0

-- the broker's tag
abbrev pub broker_tag : ℕ
broker_tag = 1

-- the regulator's tag
abbrev pub regulator_tag : ℕ
regulator_tag = 2

-- the tag of a trader by its number
abbrev pub trader_tag : ℕ → ℕ
trader_tag j = 3 + j

-- for everybody
abbrev pub public : Label
public = record { s = []; i = [] }

-- for everybody, and vouched for by the exchange
abbrev pub endorsed : Label
endorsed = record { s = []; i = floor_tag exchange_tag ∷ [] }

-- for those who are cleared for the tag
abbrev pub secret : ℕ → Label
secret number = record { s = floor_tag number ∷ []; i = [] }

-- a map of these fields
abbrev pub map_of : List (List ℕ × Plain) → Plain
map_of fields = entries (from_pairs fields)

-- the number that a flag is
abbrev pub flag_int : Bool → Plain
flag_int b = if b then int (pos 1) else int (pos 0)

-- the part that tells a tick
abbrev pub tick_draft : Tick → Draft
tick_draft t = record {
  label = endorsed;
  name = codes "tick";
  value = map_of ((codes "price", int t.price) ∷ (codes "symbol", words t.symbol) ∷ []);
}

-- the part that tells a match
abbrev pub match_draft : Match → Draft
match_draft m = record {
  label = endorsed;
  name = codes "match";
  value = map_of ((codes "a", words m.first) ∷ (codes "b", words m.second)
      ∷ (codes "pa", int m.first_price) ∷ (codes "pb", int m.second_price)
      ∷ (codes "side", int m.side) ∷ []);
}

-- the part that tells an order
abbrev pub offer_draft : Offer → Draft
offer_draft o = record {
  label = secret broker_tag;
  name = codes "order";
  value = map_of ((codes "id", int o.id) ∷ (codes "limit", int o.limit)
      ∷ (codes "qty", int o.qty) ∷ (codes "sell", flag_int o.sell)
      ∷ (codes "symbol", words o.symbol) ∷ (codes "trader", int o.trader) ∷ []);
}

-- of a trade and its number: what everybody is told
abbrev pub trade_draft : ℤ → Trade → Draft
trade_draft number t = record {
  label = public;
  name = codes "trade";
  value = map_of ((codes "number", int number) ∷ (codes "price", int t.price)
      ∷ (codes "qty", int t.qty) ∷ (codes "symbol", words t.symbol) ∷ []);
}

-- what the regulator is told
abbrev pub who_draft : Trade → Draft
who_draft t = record {
  label = secret regulator_tag;
  name = codes "who";
  value = map_of ((codes "buyer", int (pos t.buyer)) ∷ (codes "seller", int (pos t.seller)) ∷ []);
}

-- what a party is told, the seller or the buyer
abbrev pub fill_draft : ℤ → Trade → Bool → Draft
fill_draft number t sell = record {
  label = secret (trader_tag (if sell then t.seller else t.buyer));
  name = codes "fill";
  value = map_of ((codes "number", int number) ∷ (codes "price", int t.price)
      ∷ (codes "qty", int t.qty) ∷ (codes "sell", flag_int sell)
      ∷ (codes "symbol", words t.symbol) ∷ []);
}

-- the part that warns of a trade
abbrev pub warning_draft : ℤ → Draft
warning_draft number = record {
  label = public;
  name = codes "warning";
  value = map_of ((codes "number", int number) ∷ []);
}
