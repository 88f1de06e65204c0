-- The parts of a name that a unit sees at one of its handles.
use Rattle.std.specs.Prelude.{ℕ, List, [], Option, Some, None}
use Rattle.df_label.specs.declared.label.Label.{Label}
use Rattle.df_part.specs.declared.part.Part.{Part}
use Rattle.df_unit.specs.Drafts.{visible_named}
use Rattle.df_unit.specs.declared.handle.Handle.{Handle}

-- the visible parts of the name, in order; none where the handle isn't open
abbrev pub named_at : Label → List ℕ → Option Handle → List Part
named_at input name None = []
named_at input name (Some d) = visible_named input name d
