-- What a commit brings to a unit.
use Rattle.df_tables.proofs.Names.{◌≡◌, List, [], ◌∷◌, Bool, true, false, not, ◌||◌, if◌then◌else◌, refl, filter, list_any, is_nil}

-- nothing passes a test where no element does
pub none_pass : {A : Type 0} (p : A → Bool) (xs : List A) → not (list_any p xs) ≡ is_nil (filter p xs)
none_pass p [] = refl
none_pass p (x ∷ xs) =
    elim (p x) as (λ b. not (b || list_any p xs) ≡ is_nil (if b then x ∷ filter p xs else filter p xs)) [ true ↦ refl | false ↦ none_pass p xs ]
