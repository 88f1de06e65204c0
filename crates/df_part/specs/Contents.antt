-- What an edit makes of the parts of an event.
use Rattle.std.specs.Prelude.{Bool, not, ◌&&◌, List, ◌++◌}
use Rattle.std.specs.List.{filter, list_any}
use Rattle.std.specs.Str.{bytes_eq}
use Rattle.df_label.specs.Label.{label_eq}
use Rattle.df_part.specs.declared.part.Part.{Part}
use Rattle.df_part.specs.declared.edit.Spot.{Spot}

-- whether a part has the name and the exact label of a spot
abbrev pub is_at : Part → Spot → Bool
is_at part spot = bytes_eq part.name spot.name && label_eq part.label spot.label

-- whether a part has the name and the exact label of one of these spots
abbrev pub is_deleted : Part → List Spot → Bool
is_deleted part deleted = list_any (λ spot. is_at part spot) deleted

-- the parts that a deletion leaves
abbrev pub spared : List Spot → List Part → List Part
spared deleted parts = filter (λ part. not (is_deleted part deleted)) parts

-- the deletions go first, then the additions follow in order
abbrev pub apply : List Spot × List Part → List Part → List Part
apply edit parts = spared edit.0 parts ++ edit.1
