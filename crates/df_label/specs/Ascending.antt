-- Sets as ascending lists without repeats, by an order of their elements.
use Rattle.std.specs.Prelude.{◌≡◌, Bool, List, [], ◌∷◌, ⊤}
use Rattle.std.specs.declared.cmp.Ordering.{Ordering}
use Rattle.std.specs.declared.cmp.Ordering.TheVariants.{Less}
use Rattle.std.specs.Ordering.{match_ordering, is_eq}
use Rattle.std.specs.List.{list_any}

-- x comes before each of these
abbrev pub IsBelow : {X : Type 0} → (X → X → Ordering) → X → List X → Type 0
IsBelow cmp x [] = ⊤
IsBelow cmp x (y ∷ ys) = (cmp x y ≡ Less) × IsBelow cmp x ys

-- each comes before all that follow it
abbrev pub IsAscending : {X : Type 0} → (X → X → Ordering) → List X → Type 0
IsAscending cmp [] = ⊤
IsAscending cmp (x ∷ xs) = IsBelow cmp x xs × IsAscending cmp xs

-- whether x is one of these
abbrev pub contains_by : {X : Type 0} → (X → X → Ordering) → List X → X → Bool
contains_by cmp xs x = list_any (λ y. is_eq (cmp y x)) xs

-- the list with x in its place, unless it is there
abbrev pub insert_by : {X : Type 0} → (X → X → Ordering) → List X → X → List X
insert_by cmp [] x = x ∷ []
insert_by cmp (y ∷ ys) x = match_ordering (cmp x y) (x ∷ y ∷ ys) (y ∷ ys) (y ∷ insert_by cmp ys x)
