-- The form of a tick file, over the records that its bytes give.
use Rattle.std.specs.Prelude.{◌≡◌, ℕ, true, List, [], ◌∷◌, if◌then◌else◌, Option, Some, None, pos, ◌≤ℤ◌, codes}
use Rattle.df_records.specs.Fields.{is_symbol, number}
use Rattle.df_records.specs.RecordFile.{Fields, IsFileOf, IsBadAt as IsBadRecordAt}
use Rattle.df_ticks.specs.declared.tick.Tick.{Tick}

-- the first record of a tick file
abbrev pub header : Fields
header = codes "symbol" ∷ codes "price" ∷ []

-- the tick of a symbol and a price that was read, if it was
abbrev pub tick_with : List ℕ → Option ℕ → Option Tick
tick_with symbol (Some price) = Some (record { symbol = symbol; price = pos price })
tick_with symbol None = None

-- the tick of two fields, the price in hundredths
abbrev pub tick_of_two : List ℕ → List ℕ → Option Tick
tick_of_two symbol price =
    if is_symbol symbol then tick_with symbol (number 1 1_000_000_000 price) else None

-- the tick of a record, if it is in form
abbrev pub tick_of : Fields → Option Tick
tick_of (symbol ∷ price ∷ []) = tick_of_two symbol price
tick_of fields = None

-- a tick as files have them: a symbol, and a price from 1 to 1,000,000,000
pub record IsTick (t : Tick) : Type 0 where
  pub symbol : is_symbol t.symbol ≡ true
  pub price_from : pos 1 ≤ℤ t.price
  pub price_to : t.price ≤ℤ pos 1_000_000_000

-- these are the file's ticks: it is the header, and then a record for each
abbrev pub IsTickFile : List ℕ → List Tick → Type 0
IsTickFile bytes ticks = IsFileOf header tick_of bytes ticks

-- the first record that isn't in form has this number, from 1; a file without a record has 1
abbrev pub IsBadAt : List ℕ → ℕ → Type 0
IsBadAt bytes line = IsBadRecordAt header tick_of bytes line
