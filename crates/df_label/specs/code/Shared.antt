use Rattle.std.specs.Prelude.{List, [], Option, None, Some}
use Rattle.std.specs.declared.sync.Arc.{Arc}
use Rattle.std.specs.declared.vec.Vec.{Vec}
use Rattle.std.specs.declared.alloc.Global.{Global}
use Rattle.std.specs.Arc.{arc_value}

-- the elements behind a count of owners; none where there is no count
abbrev pub items_of : {X : Type 0} → Option (Arc (Vec X Global) Global) → List X
items_of None = []
items_of (Some items) = (arc_value items).items
