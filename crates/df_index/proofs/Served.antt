-- Whether some part that is readable at a label passes a test.
use Rattle.std.proofs.Common.{◌≡◌, Bool, true, false, ◌&&◌, ◌||◌, if◌then◌else◌, List, [], ◌∷◌, refl, ap}
use Rattle.std.specs.List.{list_any, filter}

-- what passes a test among what passes another
pub any_within : {X : Type 0} (p f : X → Bool) (xs : List X) → list_any (λ x. p x && f x) xs ≡ list_any f (filter p xs)
any_within p f [] = refl
any_within {X} p f (x ∷ xs) = by (p x) (any_within p f xs)
  where
    by : (a : Bool) → list_any (λ x. p x && f x) xs ≡ list_any f (filter p xs) → ((a && f x) || list_any (λ x. p x && f x) xs) ≡ list_any f (if a then x ∷ filter p xs else filter p xs)
    by true ih = ap (λ (r : Bool). f x || r) ih
    by false ih = ih
