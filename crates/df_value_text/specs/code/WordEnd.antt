-- Where a word ends.
use Rattle.std.specs.Prelude.{◌≡◌, ℕ, List, [], ◌∷◌, ◌⊎◌, ⊤}

-- a space or a line feed
abbrev pub IsBreak : ℕ → Type 0
IsBreak c = (c ≡ 32) ⊎ (c ≡ 10)

-- nothing, a space or a line feed stands in front
abbrev pub EndsWord : List ℕ → Type 0
EndsWord [] = ⊤
EndsWord (c ∷ rest) = IsBreak c
