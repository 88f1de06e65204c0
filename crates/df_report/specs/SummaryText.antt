-- The lines of a summary: seven, each a word, a space and a number.
use Rattle.std.specs.Prelude.{ℕ, ℤ, List, ◌++◌, codes, decimal}
use Rattle.std.specs.Fmt.{signed_decimal}
use Rattle.df_report.specs.declared.report.Summary.{Summary}

-- the line of a count
abbrev pub count_line : List ℕ → ℕ → List ℕ
count_line word count = word ++ codes " " ++ decimal count ++ codes "\n"

-- the line of the quantity
abbrev pub quantity_line : ℤ → List ℕ
quantity_line quantity = codes "quantity " ++ signed_decimal quantity ++ codes "\n"

-- the text of a summary
abbrev pub summary_text : Summary → List ℕ
summary_text s =
    count_line (codes "ticks") s.ticks ++ count_line (codes "matches") s.matches
    ++ count_line (codes "orders") s.orders ++ count_line (codes "trades") s.trades
    ++ quantity_line s.quantity
    ++ count_line (codes "warnings") s.warnings ++ count_line (codes "instances") s.instances
