-- The lines of a text. Each ends with a line feed, the last one too.
use Rattle.std.specs.Prelude.{◌≡◌, ℕ, false, List, [], ◌∷◌, ◌++◌, ◌==◌, ⊤}
use Rattle.std.specs.List.{All, flat_map}

-- a line, without its line feed: no byte is one
abbrev pub IsLine : List ℕ → Type 0
IsLine line = All (λ b. (b == 10) ≡ false) line

-- a line with its line feed
abbrev pub ended : List ℕ → List ℕ
ended line = line ++ 10 ∷ []

-- the text of lines
abbrev pub lines_text : List (List ℕ) → List ℕ
lines_text lines = flat_map ended lines

-- what stands behind a line: a line feed and more, or nothing
abbrev pub EndsLine : List ℕ → Type 0
EndsLine [] = ⊤
EndsLine (b ∷ bs) = b ≡ 10
