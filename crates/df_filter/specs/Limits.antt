-- The limit of filters.
use Rattle.std.specs.Prelude.{ℕ}

-- how many clauses a filter has at most
abbrev pub most_clauses : ℕ
most_clauses = 4
