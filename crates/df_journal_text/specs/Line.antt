-- Lines of words.
use Rattle.std.specs.Prelude.{ℕ, List, [], ◌∷◌, ◌++◌}
use Rattle.std.specs.List.{flat_map}

-- a word behind others: a space and the word
abbrev pub word : List ℕ → List ℕ
word text = 32 ∷ text

-- words behind another
abbrev pub spaced : List (List ℕ) → List ℕ
spaced words = flat_map word words

-- a line: words with one space between them, and a line feed
abbrev pub line : List ℕ → List (List ℕ) → List ℕ
line first words = first ++ spaced words ++ 10 ∷ []
