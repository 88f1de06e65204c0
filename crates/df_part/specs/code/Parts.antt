-- The parts of a list, wherever they are kept.
use Rattle.std.specs.Prelude.{List, [], ◌∷◌}
use Rattle.std.specs.Arc.{arc_value}
use Rattle.df_part.specs.declared.part.Part.{Part}
use Rattle.df_part.specs.declared.parts.Kept.{Kept}
use Rattle.df_part.specs.declared.parts.Kept.TheVariants.{One, Own, Shared}

-- the parts of a list that is kept so
abbrev pub parts_of : Kept → List Part
parts_of (One part) = part ∷ []
parts_of (Own parts) = parts.items
parts_of (Shared parts) = (arc_value parts).items
