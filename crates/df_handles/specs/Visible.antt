-- Which parts of a view are visible.
use Rattle.std.specs.Prelude.{ℕ, Bool, not, ◌&&◌, List}
use Rattle.std.specs.List.{filter}
use Rattle.std.specs.Str.{bytes_eq}
use Rattle.df_label.specs.declared.label.Label.{Label}
use Rattle.df_part.specs.Contents.{is_deleted}
use Rattle.df_part.specs.Part.{readable}
use Rattle.df_part.specs.declared.edit.Spot.{Spot}
use Rattle.df_part.specs.declared.part.Part.{Part}

-- whether a part of a view is readable and isn't named for deletion
abbrev pub is_visible : Label → List Spot → Part → Bool
is_visible input named part = readable input part && not (is_deleted part named)

-- whether a part of a view is visible and has the name
abbrev pub is_named : Label → List Spot → List ℕ → Part → Bool
is_named input named name part = is_visible input named part && bytes_eq name part.name

-- the parts of a view that are visible and have the name
abbrev pub named_in : Label → List Spot → List ℕ → List Part → List Part
named_in input named name parts = filter (is_named input named name) parts
