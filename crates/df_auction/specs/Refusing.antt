-- What reading an order file answers.
use Rattle.std.specs.Prelude.{◌≡◌, ◌≢◌, ℕ, List, [], ◌∷◌, ⊤, Option, Some, None, length}
use Rattle.df_records.specs.RecordFile.{Fields}
use Rattle.df_auction.specs.declared.orders.OrdersRefused.{OrdersRefused}
use Rattle.df_auction.specs.declared.orders.OrdersRefused.TheVariants as refused
use Rattle.df_auction.specs.declared.record.Six.{Six}
use Rattle.df_auction.specs.OrderFile.{IsBadAt}

-- BadOrder tells the first record that isn't in form
abbrev pub IsRightRefusal : List ℕ → OrdersRefused → Type 0
IsRightRefusal bytes (refused.BadOrder line) = IsBadAt bytes line
IsRightRefusal bytes refused.NoMemory = ⊤

-- the fields of six
abbrev pub fields_of_six : Six → Fields
fields_of_six s = s.id.now ∷ s.trader.now ∷ s.symbol.now ∷ s.sell.now ∷ s.limit.now ∷ s.qty.now ∷ []

-- a record's six fields, if it has six
abbrev pub HasSix : Fields → Option Six → Type 0
HasSix fields None = length fields ≢ 6
HasSix fields (Some s) = fields ≡ fields_of_six s
