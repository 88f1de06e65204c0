-- A label that is known by its word.
use Rattle.std.specs.Prelude.{◌≡◌, ⊤, ℕ, List, [], ◌++◌, Option, None, Some, Ok}
use Rattle.df_label.specs.declared.label.Label.{Label}
use Rattle.df_value_text.specs.ReadLabel.{label_at}

-- the label without tags
abbrev pub bare_label : Label
bare_label = record { s = []; i = [] }

-- where these bytes stand, the label is read, and nothing behind them
abbrev pub IsKnown : Option Label → List ℕ → Type 0
IsKnown None word = ⊤
IsKnown (Some label) word = (rest : List ℕ) → label_at (word ++ rest) ≡ Ok (label, rest)
