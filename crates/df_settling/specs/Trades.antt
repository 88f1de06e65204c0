-- The orders of a floor's broker, and how many trades they make.
use Rattle.std.specs.Prelude.{ℕ, ◌+◌, if◌then◌else◌, List, [], ◌∷◌, Option, Some, None, length, codes, pos}
use Rattle.std.specs.List.{flat_map}
use Rattle.df_book.specs.Submitting.{submitted}
use Rattle.df_book.specs.declared.order.Order.{Order}
use Rattle.df_config.specs.declared.config.Config.{Config}
use Rattle.df_floor_units.specs.Broking.{order_of, takes}
use Rattle.df_floor_units.specs.Hearing.{first_of}
use Rattle.df_floor_units.specs.declared.broker.Broker.{Broker}
use Rattle.df_messages.specs.Drafts.{broker_tag, secret}
use Rattle.df_messages.specs.Messages.{offer_in}
use Rattle.df_messages.specs.declared.message.Offer.{Offer}
use Rattle.df_unit.specs.Drafts.{shown, visible_named}
use Rattle.df_unit.specs.Handles.{view_of}
use Rattle.df_unit.specs.declared.commit.Given.{Given}

-- the trades of orders that are submitted to a book one after another
abbrev pub trade_count : List Order → List Order → ℕ
trade_count book [] = 0
trade_count book (o ∷ os) =
    length (submitted o book).trades + trade_count (submitted o book).resting os

-- the broker of a floor, with whom no order rests
abbrev pub first_broker : Config → Broker
first_broker c = record { book = []; traders = length c.traders; next_trade = pos 0 }

-- the order that a delivery shows the broker, if it shows one
abbrev pub offer_shown : Given → Option Offer
offer_shown d = first_of offer_in (shown (visible_named (secret broker_tag) (codes "order")
    (view_of d.event d.parts)))

-- the order as the book takes it, where the broker takes it
abbrev pub if_taken : Broker → Option Offer → List Order
if_taken b None = []
if_taken b (Some o) = if takes b o then order_of o ∷ [] else []

-- the orders that the broker takes of these deliveries
abbrev pub orders_taken : Broker → List Given → List Order
orders_taken b ds = flat_map (λ d. if_taken b (offer_shown d)) ds
