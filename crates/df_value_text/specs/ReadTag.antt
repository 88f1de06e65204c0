-- Reading a tag and a set of tags.
use Rattle.std.specs.Prelude.{ℕ, Bool, false, ◌&&◌, List, [], ◌∷◌, Option, Some, None, Ok, Err, ◌==◌, if◌then◌else◌}
use Rattle.std.specs.Ordering.{is_lt}
use Rattle.std.specs.Char.{is_ascii_digit}
use Rattle.df_format.specs.Reading.{Bad, Low, Read, ◌>>=◌, as_at, maybe_at, behind_at, items_at}
use Rattle.df_label.specs.Tag.{tag_cmp}
use Rattle.df_value_text.specs.Number.{number_at}

-- a number of 32 bits
abbrev pub short_at : List ℕ → Read ℕ ℕ
short_at bytes = number_at 4294967295 bytes

abbrev pub begins_digit : List ℕ → Bool
begins_digit [] = false
begins_digit (c ∷ cs) = is_ascii_digit c

-- a dot with a digit behind it
abbrev pub leads_number : ℕ → ℕ → List ℕ → Bool
leads_number prev c cs = c == 46 && begins_digit cs

-- the items in one list
abbrev pub listed : {X : Type 0} → X × List X → List X
listed xs = xs.0 ∷ xs.1

-- numbers as long as they go, with dots between them
abbrev pub numbers_at : List ℕ → Read ℕ (List ℕ)
numbers_at bytes = as_at listed (items_at leads_number short_at (λ prev. short_at)) bytes

-- the longest tag
abbrev pub longest_at : List ℕ → Read ℕ (List ℕ)
longest_at bytes = behind_at (35 ∷ []) numbers_at bytes

-- behind a dot a number has to stand
abbrev pub ended : {X : Type 0} → X × List ℕ → Read ℕ X
ended (x, []) = Ok (x, [])
ended (x, c ∷ cs) = if c == 46 then Err (Bad cs) else Ok (x, c ∷ cs)

abbrev pub tag_at : List ℕ → Read ℕ (List ℕ)
tag_at bytes = longest_at bytes >>= ended

-- the tag at these bytes, if it is above this one
abbrev pub above : List ℕ → List ℕ → List ℕ × List ℕ → Read ℕ (List ℕ)
above prev bytes tag = if is_lt (tag_cmp prev tag.0) then ended tag else Err (Low bytes)

abbrev pub next_at : List ℕ → List ℕ → Read ℕ (List ℕ)
next_at prev bytes = longest_at bytes >>= above prev bytes

abbrev pub leads_tag : List ℕ → ℕ → List ℕ → Bool
leads_tag prev c cs = c == 44

-- the items in one list, which may be empty
abbrev pub optional : {X : Type 0} → Option (X × List X) → List X
optional None = []
optional (Some xs) = listed xs

-- at least one tag
abbrev pub some_tags_at : List ℕ → Read ℕ (List (List ℕ))
some_tags_at bytes = as_at listed (items_at leads_tag tag_at next_at) bytes

-- a set of tags
abbrev pub tags_at : List ℕ → Read ℕ (List (List ℕ))
tags_at bytes = as_at optional (maybe_at (λ c. c == 35) (items_at leads_tag tag_at next_at)) bytes

-- a dot and a digit stand in front
abbrev pub leads_at : List ℕ → Bool
leads_at [] = false
leads_at (c ∷ cs) = leads_number 0 c cs
