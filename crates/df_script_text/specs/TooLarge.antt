-- Where a value that is too large stands in a script.
use Rattle.std.specs.Prelude.{◌≡◌, ℕ, List, ◌∷◌, ◌++◌, codes}
use Rattle.df_journal_text.specs.Large.{IsLargeCalled}

-- a unit adds a part whose value is too large in this line, and the line stands among those of
-- calls, behind the line `run`
abbrev pub IsTooLargeIn : List (List ℕ) → List ℕ → Type 0
IsTooLargeIn before line = ((head calls : List (List ℕ)) × (before ≡ head ++ codes "run" ∷ calls))
    × IsLargeCalled line
