-- The text of a tick file.
use Rattle.std.specs.Prelude.{ℕ, List, ◌++◌, codes}
use Rattle.std.specs.List.{flat_map}
use Rattle.std.specs.Fmt.{signed_decimal}
use Rattle.df_ticks.specs.declared.tick.Tick.{Tick}

-- the line of a tick
abbrev pub tick_line : Tick → List ℕ
tick_line t = t.symbol ++ codes "," ++ signed_decimal t.price ++ codes "\n"

-- the line of the columns, and a line for each tick
abbrev pub ticks_text : List Tick → List ℕ
ticks_text ticks = codes "symbol,price\n" ++ flat_map tick_line ticks
