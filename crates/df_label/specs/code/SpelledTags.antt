use Rattle.std.specs.Prelude.{◌≡◌, ℕ, List, [], ◌∷◌, All, Option, None, Some, ⊤}
use Rattle.std.specs.declared.sync.Arc.{Arc}
use Rattle.std.specs.declared.alloc.Global.{Global}
use Rattle.std.specs.Arc.{arc_value}
use Rattle.df_label.specs.Spelling.{tags_text, AreShort}

-- nothing, or the spelling of these tags
abbrev pub IsSpelling : List ℕ → List (List ℕ) → Type 0
IsSpelling [] tags = ⊤
IsSpelling (c ∷ cs) tags = (c ∷ cs ≡ tags_text tags) × All AreShort tags

-- the tags behind a count of owners; none where there is no count
abbrev pub tags_of : Option (Arc (List (List ℕ)) Global) → List (List ℕ)
tags_of None = []
tags_of (Some tags) = arc_value tags
