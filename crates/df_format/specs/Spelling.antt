-- How what is read one behind the other is spelled.
use Rattle.std.specs.Prelude.{List, [], ◌∷◌, ◌++◌, Option, Some, None}

-- one thing and then another
abbrev pub then_spell : {T X Y : Type 0} → (X → List T) → (Y → List T) → X × Y → List T
then_spell first second p = first p.0 ++ second p.1

-- something or nothing
abbrev pub maybe_spell : {T X : Type 0} → (X → List T) → Option X → List T
maybe_spell spell None = []
maybe_spell spell (Some x) = spell x

-- items, each behind sep
abbrev pub more_spell : {T X : Type 0} → T → (X → List T) → List X → List T
more_spell sep spell [] = []
more_spell sep spell (x ∷ xs) = sep ∷ (spell x ++ more_spell sep spell xs)

-- at least one item, with sep between each two
abbrev pub items_spell : {T X : Type 0} → T → (X → List T) → X × List X → List T
items_spell sep spell xs = spell xs.0 ++ more_spell sep spell xs.1
