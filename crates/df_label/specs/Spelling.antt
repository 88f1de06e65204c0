-- How tags and sets of tags are spelled.
use Rattle.std.specs.Prelude.{ℕ, ◌<◌, ◌^◌, List, [], ◌∷◌, ◌++◌, All, codes, decimal, map, ◌==◌, if◌then◌else◌}
use Rattle.std.specs.List.{join_with_byte}

-- what stands in front of the item at a place
abbrev pub separator : ℕ → ℕ → List ℕ
separator between place = if place == 0 then [] else between ∷ []

-- the spellings of these items, with a byte between each two
abbrev pub joined : {X : Type 0} → ℕ → (X → List ℕ) → List X → List ℕ
joined between text items = join_with_byte between (map text items)

-- numbers with `.` between them
abbrev pub path_text : List ℕ → List ℕ
path_text numbers = joined 46 decimal numbers

-- a tag: `#` and its numbers
abbrev pub tag_text : List ℕ → List ℕ
tag_text tag = codes "#" ++ path_text tag

-- a set of tags, with `,` between them
abbrev pub tags_text : List (List ℕ) → List ℕ
tags_text tags = joined 44 tag_text tags

-- numbers of 32 bits
abbrev pub AreShort : List ℕ → Type 0
AreShort numbers = All (λ n. n < 2 ^ 32) numbers
