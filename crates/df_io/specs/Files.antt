-- Files by name.
use Rattle.std.specs.Prelude.{◌≡◌, ℕ, List, Option, Some, option_map, if◌then◌else◌}
use Rattle.std.specs.List.{find}
use Rattle.std.specs.Str.{bytes_eq}

-- what is in the file of a name, the first of that name
abbrev pub bytes_of : List ℕ → List (List ℕ × List ℕ) → Option (List ℕ)
bytes_of name files = option_map (λ f. f.1) (find (λ f. bytes_eq f.0 name) files)

-- the file of a name has these bytes now, and every other file is as it was
abbrev pub PutsFile : List ℕ → List ℕ → List (List ℕ × List ℕ) → List (List ℕ × List ℕ) → Type 0
PutsFile name bytes old new = (n : List ℕ) → bytes_of n new
    ≡ (if bytes_eq name n then Some bytes else bytes_of n old)
