-- The one place at which a set of tags is refused though its bytes could go on.
use Rattle.std.specs.Prelude.{◌≡◌, false, ℕ, List, [], ◌∷◌, ◌++◌, codes, ◌⊎◌}
use Rattle.std.specs.Ordering.{is_lt}
use Rattle.df_format.specs.Grammar.{IsLongest}
use Rattle.df_label.specs.Tag.{tag_cmp}
use Rattle.df_value_text.specs.Fits.{IsTag, IsTagSet}
use Rattle.df_value_text.specs.Label.{tag_text, tags_text}

-- at rest stands a tag that isn't above this one
pub record StandsLow (prev rest : List ℕ) : Type 0 where
  pub tag : List ℕ
  pub more : List ℕ
  pub longest : IsLongest tag_text IsTag rest tag more
  pub low : is_lt (tag_cmp prev tag) ≡ false

-- front ends with a tag and a comma, and the tag at rest isn't above that one
pub record IsLowTag (front rest : List ℕ) : Type 0 where
  pub before : List ℕ
  pub prev : List ℕ
  pub is : front ≡ before ++ (tag_text prev ++ codes ",")
  pub low : StandsLow prev rest

-- behind these bytes stand tags of a set and a comma, and the tag at rest isn't above the last of
-- them
pub record LowBehind (opened bytes rest : List ℕ) : Type 0 where
  pub tags : List (List ℕ)
  pub prev : List ℕ
  pub set : IsTagSet (tags ++ prev ∷ [])
  pub is : bytes ≡ opened ++ (tags_text (tags ++ prev ∷ []) ++ (44 ∷ rest))
  pub low : StandsLow prev rest

-- the tag at rest stands in one of a label's sets, and isn't above the one before it
abbrev pub LowInLabel : List ℕ → List ℕ → Type 0
LowInLabel bytes rest = LowBehind (codes "{") bytes rest
    ⊎ ((s : List (List ℕ)) × IsTagSet s × LowBehind
    (codes "{" ++ (tags_text s ++ codes "|")) bytes rest)
