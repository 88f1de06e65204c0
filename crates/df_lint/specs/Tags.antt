-- The tags of a start as a set.
use Rattle.std.specs.Prelude.{◌≡◌, ℕ, List}
use Rattle.df_family.specs.Family.{names}
use Rattle.df_label.specs.TagSet.{contains}
use Rattle.df_rules.specs.Always.{Roots}

-- the tags are those that the start names
abbrev pub AreTagsOf : Roots → List (List ℕ) → Type 0
AreTagsOf start tags = (t : List ℕ) → contains tags t ≡ names start t
