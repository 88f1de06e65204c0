-- Maps over options.
use Rattle.std.proofs.Common.{◌≡◌, refl, Option, Some, None}
use Rattle.std.specs.Prelude.{option_map}

-- two maps are one
pub option_map-option_map : {A B C : Type 0} (g : B → C) (f : A → B) (o : Option A) → option_map g (option_map f o) ≡ option_map (λ x. g (f x)) o
option_map-option_map g f None = refl
option_map-option_map g f (Some x) = refl
