-- What is looked for in a view, in one go.
use Rattle.std.specs.Prelude.{ℕ, Bool, ◌&&◌, List}
use Rattle.std.specs.List.{filter, list_any}
use Rattle.df_label.specs.declared.label.Label.{Label}
use Rattle.df_part.specs.Contents.{is_at}
use Rattle.df_part.specs.declared.edit.Spot.{Spot}
use Rattle.df_part.specs.declared.part.Part.{Part}
use Rattle.df_unit.specs.Drafts.{shown}
use Rattle.df_unit.specs.declared.parts.PartRead.{PartRead}
use Rattle.df_handles.specs.Visible.{is_visible, named_in}

-- the parts of a view that are readable and aren't named for deletion
abbrev pub visible_in : Label → List Spot → List Part → List Part
visible_in input named parts = filter (is_visible input named) parts

-- whether one of these parts is visible and has the name and the exact label of a spot
abbrev pub has_seen : Label → List Spot → Spot → List Part → Bool
has_seen input named d parts = list_any (λ part. is_visible input named part && is_at part d) parts

-- what a read shows of these parts of a view
abbrev pub shown_in : Label → List ℕ → List Spot → List Part → List PartRead
shown_in input name named seen = shown (named_in input named name seen)
