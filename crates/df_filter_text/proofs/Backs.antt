-- A filter that is spelled is read back, where a word ends, and what stands behind it is left.
use Rattle.df_filter_text.proofs.Names.{◌≡◌, ℕ, eqb, last_ends_at, leads_clause, List, [], ◌∷◌, ◌++◌, Ok, refl, Clause, Ends, filter_text, IsFilter, filter_at}
use Rattle.df_value_text.specs.code.WordEnd.{EndsWord}
use Rattle.df_value_text.proofs.WordEnds.{at_break}
use Rattle.df_filter_text.proofs.ClauseLaws.{clause_goes, clause_ends}
use Rattle.df_filter_text.proofs.FilterLaws.{filter_format, filter_goes, placed, placed_goes}

filter_stops : (clauses : List Clause) (rest : List ℕ) → EndsWord rest → Ends filter_goes clauses rest
filter_stops clauses [] end = tt
filter_stops [] (c ∷ rest) end = refl
filter_stops (x ∷ xs) (c ∷ rest) end = last_ends_at leads_clause placed_goes c (λ p. let no = at_break (λ c. eqb c 38) refl refl c end in
    rw no (at_break (clause_goes p.0) (clause_ends p.0 32 refl) (clause_ends p.0 10 refl) c end)) (x, 3) (placed 2 xs)

pub filter_back : (clauses : List Clause) (rest : List ℕ) → IsFilter clauses → EndsWord rest → filter_at (filter_text clauses ++ rest) ≡ Ok (clauses, rest)
filter_back clauses rest fits end = filter_format.again clauses rest fits (filter_stops clauses rest end)
