-- Reading starts.
use Rattle.std.specs.Prelude.{ℕ, ◌+◌, zero, suc, List, [], ◌∷◌, ◌++◌, length, Ok, codes, decimal, if◌then◌else◌}
use Rattle.df_format.specs.Reading.{Read, ◌>>=◌, as_at, then_at, behind_at}
use Rattle.df_label.specs.declared.label.Label.{Label}
use Rattle.df_label.specs.declared.privilege.Privilege.{Privilege}
use Rattle.df_start.specs.declared.start.RootStart.{RootStart}
use Rattle.df_value_text.specs.Number.{begins_with}
use Rattle.df_value_text.specs.ReadLabel.{label_at}
use Rattle.df_journal_text.specs.ReadWords.{word_at, line_at, privileges_at}

abbrev pub root_of : Label × List Privilege → RootStart
root_of parts = record { label = parts.0; privileges = parts.1 }

-- the line of the root that has this number
abbrev pub root_at : ℕ → List ℕ → Read ℕ RootStart
root_at number bytes =
    behind_at (codes "unit " ++ decimal number)
    (line_at (as_at root_of (then_at (word_at label_at) privileges_at))) bytes

-- the lines of roots, of which the first has this number, as many as `u` stands in front, and at
-- most so many
abbrev pub roots_within : ℕ → ℕ → List ℕ → Read ℕ (List RootStart)
roots_within zero number bytes = Ok ([], bytes)
roots_within (suc most) number bytes =
    if begins_with 117 bytes
    then (root_at number bytes >>= λ root. roots_within most (number + 1) root.1 >>= λ roots. Ok
    (root.0 ∷ roots.0, roots.1))
    else Ok ([], bytes)

-- the lines of a start
abbrev pub start_at : List ℕ → Read ℕ (List RootStart)
start_at bytes = roots_within (length bytes) 0 bytes
