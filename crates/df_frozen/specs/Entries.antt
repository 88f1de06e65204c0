use Rattle.std.specs.Prelude.{◌≡◌, ℕ, List, [], ◌∷◌, ⊤, map, Option, Some, None, if◌then◌else◌}
use Rattle.std.specs.declared.cmp.Ordering.TheVariants.{Less}
use Rattle.std.specs.Str.{bytes_eq}
use Rattle.df_frozen.specs.Plain.{Plain}
use Rattle.df_frozen.specs.Name.{name_cmp}

-- the names of these entries
abbrev pub names : {X : Type 0} → List (List ℕ × X) → List (List ℕ)
names es = map (λ e. e.0) es

-- the values of these entries
abbrev pub values : List (List ℕ × Plain) → List Plain
values es = map (λ e. e.1) es

-- the value under the name
abbrev pub get : List ℕ → List (List ℕ × Plain) → Option Plain
get name [] = None
get name (e ∷ es) = if bytes_eq name e.0 then Some e.1 else get name es

-- the name comes before each of these
abbrev pub IsBelow : List ℕ → List (List ℕ) → Type 0
IsBelow name [] = ⊤
IsBelow name (n ∷ ns) = (name_cmp name n ≡ Less) × IsBelow name ns

-- each name comes before those after it
abbrev pub IsAscending : List (List ℕ) → Type 0
IsAscending [] = ⊤
IsAscending (n ∷ ns) = IsBelow n ns × IsAscending ns
