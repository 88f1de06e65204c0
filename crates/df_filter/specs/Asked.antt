-- What tests ask of plain content.
use Rattle.std.specs.Prelude.{ℕ, ℤ, Bool, false, ◌&&◌, List, Option, Some, None, int_lt, int_le, nat_eq}
use Rattle.std.specs.List.{starts_with}
use Rattle.std.specs.Ordering.{int_eq}
use Rattle.std.specs.Str.{bytes_eq}
use Rattle.df_frozen.specs.Place.{value_under}
use Rattle.df_frozen.specs.Plain.{Plain, int, words, bytes, items, entries}

-- the number that it is
abbrev pub int_of : Plain → Option ℤ
int_of (int number) = Some number
int_of (words text) = None
int_of (bytes text) = None
int_of (items values) = None
int_of (entries values) = None

-- the bytes of the words that it is
abbrev pub words_of : Plain → Option (List ℕ)
words_of (int number) = None
words_of (words text) = Some text
words_of (bytes text) = None
words_of (items values) = None
words_of (entries values) = None

-- the value of the field in the map that it is
abbrev pub field_of : List ℕ → Plain → Option Plain
field_of field (int number) = None
field_of field (words text) = None
field_of field (bytes text) = None
field_of field (items values) = None
field_of field (entries values) = value_under field values

-- there is something, and it passes
abbrev pub some_passes : {X : Type 0} → (X → Bool) → Option X → Bool
some_passes passes None = false
some_passes passes (Some x) = passes x

-- it is this number
abbrev pub equals_int : ℤ → Plain → Bool
equals_int wanted value = some_passes (λ number. int_eq number wanted) (int_of value)

-- it is a number below this one
abbrev pub is_below : ℤ → Plain → Bool
is_below limit value = some_passes (λ number. int_lt number limit) (int_of value)

-- it is a number above this one
abbrev pub is_above : ℤ → Plain → Bool
is_above limit value = some_passes (λ number. int_lt limit number) (int_of value)

-- it is a number from the lowest to the highest, both included
abbrev pub is_between : ℤ → ℤ → Plain → Bool
is_between lowest highest value =
    some_passes (λ number. int_le lowest number && int_le number highest) (int_of value)

-- it is these words
abbrev pub equals_words : List ℕ → Plain → Bool
equals_words wanted value = some_passes (λ text. bytes_eq text wanted) (words_of value)

-- it is words that begin with these bytes
abbrev pub begins_with : List ℕ → Plain → Bool
begins_with front value = some_passes (λ text. starts_with nat_eq text front) (words_of value)
