-- Which contaminations the choices of a commit give.
use Rattle.std.specs.Prelude.{◌≡◌, ℕ, Bool, List, ◌++◌}
use Rattle.std.specs.List.{list_any}
use Rattle.df_label.specs.TagSet.{tag_set_eq}
use Rattle.df_part.specs.declared.part.Part.{Part}

-- the added parts are the last of these
abbrev pub EndsWith : List Part → List Part → Type 0
EndsWith added parts = (old : List Part) × (parts ≡ old ++ added)

-- whether t is one of the sets
abbrev pub has_set : List (List (List ℕ)) → List (List ℕ) → Bool
has_set sets t = list_any (λ s. tag_set_eq s t) sets
