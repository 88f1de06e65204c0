-- A filter's first name, and which parts it matches.
use Rattle.std.specs.Prelude.{ℕ, Bool, List, [], ◌∷◌, Option, Some, None}
use Rattle.std.specs.List.{list_any, list_all}
use Rattle.df_filter.specs.Clause.{holds}
use Rattle.df_filter.specs.declared.clause.Clause.{Clause}
use Rattle.df_part.specs.declared.part.Part.{Part}

-- the name of the first clause
abbrev pub first_of : List Clause → Option (List ℕ)
first_of [] = None
first_of (c ∷ cs) = Some c.name

-- whether the part serves the clause
abbrev pub serves : Clause → Part → Bool
serves c part = holds c part.name part.value

-- a filter matches where each clause holds of some part
abbrev pub matches : List Clause → List Part → Bool
matches filter parts = list_all (λ c. list_any (λ part. serves c part) parts) filter
