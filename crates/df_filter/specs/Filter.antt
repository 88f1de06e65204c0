-- Which lists of clauses are filters.
use Rattle.std.specs.Prelude.{List, length, Result, Ok, Err, nat_lt, ◌==◌, if◌then◌else◌}
use Rattle.df_filter.specs.Limits.{most_clauses}
use Rattle.df_filter.specs.declared.clause.Clause.{Clause}
use Rattle.df_filter.specs.declared.filter.FilterRefused.{FilterRefused}
use Rattle.df_filter.specs.declared.filter.FilterRefused.TheVariants.{NoClause, TooManyClauses}

-- the filter of these clauses: there is at least one, and no more than the most
abbrev pub filter_of : List Clause → Result (List Clause) FilterRefused
filter_of clauses =
    if length clauses == 0 then Err NoClause
    else (if nat_lt most_clauses (length clauses) then Err TooManyClauses else Ok clauses)
