-- What reading a tick file answers.
use Rattle.std.specs.Prelude.{◌≡◌, ◌≢◌, ℕ, List, [], ◌∷◌, ⊤, Option, Some, None, length}
use Rattle.df_records.specs.RecordFile.{Fields}
use Rattle.df_ticks.specs.declared.ticks.TicksRefused.{TicksRefused}
use Rattle.df_ticks.specs.declared.ticks.TicksRefused.TheVariants as refused
use Rattle.df_ticks.specs.declared.record.Two.{Two}
use Rattle.df_ticks.specs.TickFile.{IsBadAt}

-- BadTick tells the first record that isn't in form
abbrev pub IsRightRefusal : List ℕ → TicksRefused → Type 0
IsRightRefusal bytes (refused.BadTick line) = IsBadAt bytes line
IsRightRefusal bytes refused.NoMemory = ⊤

-- the fields of two
abbrev pub fields_of_two : Two → Fields
fields_of_two t = t.symbol.now ∷ t.price.now ∷ []

-- a record's two fields, if it has two
abbrev pub HasTwo : Fields → Option Two → Type 0
HasTwo fields None = length fields ≢ 2
HasTwo fields (Some t) = fields ≡ fields_of_two t
