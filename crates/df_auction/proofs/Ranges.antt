-- The orders of a file are in range.
use Rattle.std.proofs.Common.{◌≡◌, ℕ, ◌≤◌, Bool, true, false, cond, ◌==◌, List, [], ◌∷◌, refl, subst, arith, Option, Some, None}
use Rattle.std.specs.Prelude.{All, pos}
use Rattle.std.proofs.lemmas.Int.{ints}
use Rattle.df_book.specs.declared.order.Order.{Order}
use Rattle.df_records.specs.Fields.{is_symbol, number}
use Rattle.df_records.specs.RecordFile.{Fields}
use Rattle.df_records.proofs.Fields.{number_in, some_is}
use Rattle.df_records.proofs.Reading.{all_told}
use Rattle.df_auction.specs.Stairs.{IsInRange}
use Rattle.df_auction.specs.OrderFile.{order_with, order_of_six, order_of, IsOrderFile}

in_range : (id limit qty : ℕ) (symbol : List ℕ) (trader : ℕ) (sell : Bool) → (1 ≤ limit) × (limit ≤ 1_000_000_000) → (1 ≤ qty) × (qty ≤ 1_000_000)
    → IsInRange record { id = pos id; limit = pos limit; qty = pos qty; symbol = symbol; trader = trader; sell = sell }
in_range id limit qty symbol trader sell l q = record
    { limit_from = omega (arith, ints, l.0); limit_to = omega (arith, ints, l.1); qty_from = omega (arith, ints, q.0); qty_to = omega (arith, ints, q.1) }

order_with_in : (symbol : List ℕ) (id trader sell limit qty : Option ℕ) (o : Order)
    → ((n : ℕ) → limit ≡ Some n → (1 ≤ n) × (n ≤ 1_000_000_000)) → ((n : ℕ) → qty ≡ Some n → (1 ≤ n) × (n ≤ 1_000_000))
    → order_with symbol id trader sell limit qty ≡ Some o → IsInRange o
order_with_in symbol (Some id) (Some trader) (Some sell) (Some limit) (Some qty) o l q h =
    subst IsInRange (some_is _ o h) (in_range id limit qty symbol trader (sell == 1) (l limit refl) (q qty refl))
order_with_in symbol _ _ _ _ _ o l q h = absurd cc

six_in : (id trader symbol sell limit qty : List ℕ) (o : Order) → order_of_six id trader symbol sell limit qty ≡ Some o → IsInRange o
six_in id trader symbol sell limit qty o h = go (is_symbol symbol) h
  where
    go : (t : Bool) → cond t (order_with symbol (number 0 4_294_967_295 id) (number 0 4_294_967_295 trader) (number 0 1 sell) (number 1 1_000_000_000 limit) (number 1 1_000_000 qty)) None ≡ Some o → IsInRange o
    go true h = order_with_in symbol (number 0 4_294_967_295 id) (number 0 4_294_967_295 trader) (number 0 1 sell) (number 1 1_000_000_000 limit)
        (number 1 1_000_000 qty) o
        (λ n e. number_in 1 1_000_000_000 n limit e) (λ n e. number_in 1 1_000_000 n qty e) h
    go false h = absurd cc

order_in : (fs : Fields) (o : Order) → order_of fs ≡ Some o → IsInRange o
order_in (p ∷ q ∷ r ∷ s ∷ t ∷ u ∷ []) o h = six_in p q r s t u o h
order_in _ o h = absurd cc

-- the orders of a file are in range
pub file_in_range : (bytes : List ℕ) (orders : List Order) → IsOrderFile bytes orders → All IsInRange orders
file_in_range bytes orders f = all_told order_of IsInRange order_in f.2.0 orders f.2.2
