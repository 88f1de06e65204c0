-- The orders that the broker takes of its deliveries, and the trades and the book that they make.
use Rattle.df_settling.proofs.Names.{◌≡◌, ℕ, ◌+◌, ◌*◌, ◌≤◌, List, [], ◌∷◌, ◌++◌, Bool, true, false, refl, ◌∙◌, ap, cond, Option, Some, None, length, append-nil, length-append, arith, fold, resting_after, submitted, Order, Offer, Given, order_of, takes, if_taken, offer_shown, orders_taken, trade_count}
use Rattle.std.proofs.lemmas.Grind.{flat_map-append}
use Rattle.std.proofs.lemmas.List.Sums.{fold-append}
use Rattle.df_floor_units.specs.declared.broker.Broker.{Broker}
use Rattle.df_settling.proofs.Balanced.{all_used_up}

-- what rests after more orders
abbrev pub rest_after : List Order → List Order → List Order
rest_after book os = fold (λ (book : List Order) o. (submitted o book).resting) book os

-- the trades of what is taken of deliveries
abbrev pub made : Broker → List Given → ℕ
made b ds = trade_count [] (orders_taken b ds)

-- and what then rests
abbrev pub rests : Broker → List Given → List Order
rests b ds = resting_after (orders_taken b ds)

count_append : (book os more : List Order) → trade_count book (os ++ more) ≡ trade_count book os + trade_count (rest_after book os) more
count_append book [] more = omega arith
count_append book (o ∷ os) more = let e = count_append (submitted o book).resting os more in omega arith

-- one more delivery
one_more : (b : Broker) (ds : List Given) (d : Given) → orders_taken b (ds ++ d ∷ []) ≡ orders_taken b ds ++ if_taken b (offer_shown d)
one_more b ds d = flat_map-append (λ d. if_taken b (offer_shown d)) ds (d ∷ [])
    ∙ ap (λ (os : List Order). orders_taken b ds ++ os) (append-nil (if_taken b (offer_shown d)))

pub made_more : (b : Broker) (ds : List Given) (d : Given) (os : List Order) → if_taken b (offer_shown d) ≡ os →
    made b (ds ++ d ∷ []) ≡ made b ds + trade_count (rests b ds) os
made_more b ds d os e = ap (trade_count []) (one_more b ds d) ∙ ap (λ (os : List Order). trade_count [] (orders_taken b ds ++ os)) e
    ∙ count_append [] (orders_taken b ds) os

pub rests_more : (b : Broker) (ds : List Given) (d : Given) (os : List Order) → if_taken b (offer_shown d) ≡ os →
    rests b (ds ++ d ∷ []) ≡ rest_after (rests b ds) os
rests_more b ds d os e = ap resting_after (one_more b ds d) ∙ ap (λ (os : List Order). resting_after (orders_taken b ds ++ os)) e
    ∙ fold-append (λ (book : List Order) o. (submitted o book).resting) [] (orders_taken b ds) os

-- at most one order of each delivery
one_at_most : (b : Broker) (o : Option Offer) → length (if_taken b o) ≤ 1
one_at_most b None = omega arith
one_at_most b (Some o) = go (takes b o)
  where
    go : (t : Bool) → length (cond t (order_of o ∷ []) []) ≤ 1
    go true = omega arith
    go false = omega arith

taken_few : (b : Broker) (ds : List Given) → length (orders_taken b ds) ≤ length ds
taken_few b [] = omega arith
taken_few b (d ∷ ds) =
    let e = length-append (if_taken b (offer_shown d)) (orders_taken b ds) in
    let one = one_at_most b (offer_shown d) in
    let more = taken_few b ds in
    omega arith

-- each trade uses an order up
pub used_up : (b : Broker) (ds : List Given) → made b ds + length (rests b ds) ≤ length ds
used_up b ds = let a = all_used_up (orders_taken b ds) in let f = taken_few b ds in omega arith

-- what a broker may have done by then
abbrev pub most : Broker → List Given → ℕ
most b ds = 2 + 3 * length ds + 6 * made b ds

-- a delivery is worth 3 entries, and each trade that it makes 6
pub most_more : (b : Broker) (ds : List Given) (d : Given) (os : List Order) → if_taken b (offer_shown d) ≡ os →
    most b (ds ++ d ∷ []) ≡ 3 + most b ds + 6 * trade_count (rests b ds) os
most_more b ds d os e =
    let m = made_more b ds d os e in
    let l = length-append ds (d ∷ []) in
    omega arith

pub most_grows : (b : Broker) (ds : List Given) (d : Given) → 3 + most b ds ≤ most b (ds ++ d ∷ [])
most_grows b ds d = let e = most_more b ds d (if_taken b (offer_shown d)) refl in omega arith
