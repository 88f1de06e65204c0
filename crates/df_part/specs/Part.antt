-- Which parts may be read at a label.
use Rattle.std.specs.Prelude.{Bool, List}
use Rattle.std.specs.List.{filter}
use Rattle.df_label.specs.declared.label.Label.{Label}
use Rattle.df_label.specs.Label.{flows_to}
use Rattle.df_part.specs.declared.part.Part.{Part}

-- a part is readable at a label when the part's label flows to it
abbrev pub readable : Label → Part → Bool
readable at part = flows_to part.label at

-- the parts that are readable at a label, in order
abbrev pub cut : Label → List Part → List Part
cut at parts = filter (readable at) parts
