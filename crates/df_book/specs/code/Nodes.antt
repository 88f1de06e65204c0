-- What a node of a tree is seen as.
use Rattle.std.specs.Prelude.{List, [], ◌∷◌, ◌++◌, Option, Some, None}
use Rattle.std.specs.Arc.{arc_value}
use Rattle.std.specs.declared.sync.Arc.{Arc}
use Rattle.std.specs.declared.alloc.Global.{Global}
use Rattle.df_book.specs.declared.place.Place.{Place}
use Rattle.df_book.specs.declared.place.Rest.{Rest}
use Rattle.df_book.specs.declared.tree.Fork.{Fork}

-- the entries of the left, the entry, and those of the right
abbrev pub entries_at : Fork → List (Place × Rest)
entries_at f = f.left ++ f.entry ∷ f.right

-- the entries of a root
abbrev pub entries_of : Option (Arc Fork Global) → List (Place × Rest)
entries_of None = []
entries_of (Some f) = entries_at (arc_value f)
