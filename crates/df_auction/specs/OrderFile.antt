-- The form of an order file, over the records that its bytes give.
use Rattle.std.specs.Prelude.{ℕ, List, [], ◌∷◌, ◌==◌, if◌then◌else◌, Option, Some, None, pos, codes}
use Rattle.df_records.specs.Fields.{is_symbol, number}
use Rattle.df_records.specs.RecordFile.{Fields, IsFileOf, IsBadAt as IsBadRecordAt}
use Rattle.df_book.specs.declared.order.Order.{Order}

-- the first record of an order file
abbrev pub header : Fields
header =
    codes "id" ∷ codes "trader" ∷ codes "symbol" ∷ codes "sell" ∷ codes "limit" ∷ codes "qty" ∷ []

-- an order of numbers that were read, if each was
abbrev pub order_with
    : List ℕ → Option ℕ → Option ℕ → Option ℕ → Option ℕ → Option ℕ → Option Order
order_with symbol (Some id) (Some trader) (Some sell) (Some limit) (Some qty) =
    Some (record {
      id = pos id;
      limit = pos limit;
      qty = pos qty;
      symbol = symbol;
      trader = trader;
      sell = sell == 1;
    })
order_with symbol (Some id) (Some trader) (Some sell) (Some limit) None = None
order_with symbol (Some id) (Some trader) (Some sell) None qty = None
order_with symbol (Some id) (Some trader) None limit qty = None
order_with symbol (Some id) None sell limit qty = None
order_with symbol None trader sell limit qty = None

-- the order of six fields
abbrev pub order_of_six : List ℕ → List ℕ → List ℕ → List ℕ → List ℕ → List ℕ → Option Order
order_of_six id trader symbol sell limit qty =
    if is_symbol symbol then
    order_with symbol (number 0 4_294_967_295 id) (number 0 4_294_967_295 trader) (number 0 1 sell)
    (number 1 1_000_000_000 limit) (number 1 1_000_000 qty)
    else None

-- the order of a record, if it is in form
abbrev pub order_of : Fields → Option Order
order_of (id ∷ trader ∷ symbol ∷ sell ∷ limit ∷ qty ∷ []) =
    order_of_six id trader symbol sell limit qty
order_of fields = None

-- these are the file's orders: it is the header, and then a record for each
abbrev pub IsOrderFile : List ℕ → List Order → Type 0
IsOrderFile bytes orders = IsFileOf header order_of bytes orders

-- the first record that isn't in form has this number, from 1; a file without a record has 1
abbrev pub IsBadAt : List ℕ → ℕ → Type 0
IsBadAt bytes line = IsBadRecordAt header order_of bytes line
