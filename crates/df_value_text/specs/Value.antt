-- How values are spelled.
use Rattle.std.specs.Prelude.{ℕ, ◌+◌, ◌/◌, ◌%◌, ◌==◌, ◌||◌, nat_lt, if◌then◌else◌, List, [], ◌∷◌, ◌++◌, codes}
use Rattle.std.specs.Fmt.{signed_decimal}
use Rattle.std.specs.List.{flat_map}
use Rattle.df_frozen.specs.Plain.{Plain, Plains, Pairs, int, words, bytes, items, entries, no_items, item, no_entries, entry}

-- a lower-case hexadecimal digit
abbrev pub hex_digit : ℕ → ℕ
hex_digit digit = if nat_lt digit 10 then 48 + digit else 87 + digit

-- a byte in two hexadecimal digits
abbrev pub hex : ℕ → List ℕ
hex byte = hex_digit (byte / 16) ∷ hex_digit (byte % 16) ∷ []

-- a byte of words: `"` and `\` behind a `\`, the control bytes as a `\` and two digits, any other
-- as itself
abbrev pub escaped : ℕ → List ℕ
escaped byte =
    if (byte == 34) || (byte == 92) then 92 ∷ byte ∷ []
    else if nat_lt byte 32 || (byte == 127) then 92 ∷ hex byte
    else byte ∷ []

-- words: in quotes, each byte escaped
abbrev pub words_text : List ℕ → List ℕ
words_text text = codes "\"" ++ flat_map escaped text ++ codes "\""

-- a value's plain content
abbrev mutual
  pub value_text : Plain → List ℕ
  value_text (int number) = signed_decimal number
  value_text (words text) = words_text text
  value_text (bytes text) = codes "x\"" ++ flat_map hex text ++ codes "\""
  value_text (items values) = codes "[" ++ items_text values ++ codes "]"
  value_text (entries values) = codes "(" ++ entries_text values ++ codes ")"

  -- items with `,` between them
  pub items_text : Plains → List ℕ
  items_text no_items = []
  items_text (item value no_items) = value_text value
  items_text (item value (item next values)) =
      value_text value ++ (44 ∷ items_text (item next values))

  -- entries with `,` between them
  pub entries_text : Pairs → List ℕ
  entries_text no_entries = []
  entries_text (entry name value no_entries) = name ++ (61 ∷ value_text value)
  entries_text (entry name value (entry next next_value values)) =
      (name ++ (61 ∷ value_text value)) ++ (44 ∷ entries_text (entry next next_value values))

-- an entry of a map: its name, `=` and its value
abbrev pub entry_text : List ℕ × Plain → List ℕ
entry_text e = e.0 ++ (61 ∷ value_text e.1)
