-- Reading a test of a field.
use Rattle.std.specs.Prelude.{ℕ, ℤ, List, [], ◌∷◌, ◌==◌}
use Rattle.df_filter.specs.declared.field_test.FieldTest.{FieldTest}
use Rattle.df_filter.specs.declared.field_test.FieldTest.TheVariants.{IntEq, IntLess, IntMore, IntIn, TextEq, TextPrefix}
use Rattle.df_format.specs.Reading.{Read, as_at, then_at, either_at, behind_at, closed_at}
use Rattle.df_value_text.specs.ReadWhole.{whole_at}
use Rattle.df_value_text.specs.ReadWords.{words_at}

-- the words that a value is to be
abbrev pub words_equal_at : List ℕ → Read ℕ FieldTest
words_equal_at bytes = as_at (λ text. TextEq text) words_at bytes

-- the whole number that a value is to be
abbrev pub whole_equal_at : List ℕ → Read ℕ FieldTest
whole_equal_at bytes = as_at (λ n. IntEq n) whole_at bytes

-- behind `=`, words begin with a quote, and all else is a whole number
abbrev pub equal_at : List ℕ → Read ℕ FieldTest
equal_at bytes = behind_at (61 ∷ []) (either_at (λ c. c == 34) words_equal_at whole_equal_at) bytes

-- `<` and the number below which a value is to be
abbrev pub below_at : List ℕ → Read ℕ FieldTest
below_at bytes = as_at (λ n. IntLess n) (behind_at (60 ∷ []) whole_at) bytes

-- `>` and the number above which it is to be
abbrev pub above_at : List ℕ → Read ℕ FieldTest
above_at bytes = as_at (λ n. IntMore n) (behind_at (62 ∷ []) whole_at) bytes

-- the lowest and the highest number in one test
abbrev pub range_of : ℤ × ℤ → FieldTest
range_of ends = IntIn ends.0 ends.1

-- `:` and both numbers, with `..` between them
abbrev pub range_at : List ℕ → Read ℕ FieldTest
range_at bytes =
    as_at range_of (behind_at (58 ∷ []) (then_at (closed_at (46 ∷ 46 ∷ []) whole_at) whole_at))
    bytes

-- `^` and the words with which a value is to begin
abbrev pub prefix_at : List ℕ → Read ℕ FieldTest
prefix_at bytes = as_at (λ text. TextPrefix text) (behind_at (94 ∷ []) words_at) bytes

-- the first byte tells which test stands there: `:` or `^`
abbrev pub from_range_at : List ℕ → Read ℕ FieldTest
from_range_at bytes = either_at (λ c. c == 58) range_at prefix_at bytes

-- `>` or one of these
abbrev pub from_above_at : List ℕ → Read ℕ FieldTest
from_above_at bytes = either_at (λ c. c == 62) above_at from_range_at bytes

-- `<` or one of these
abbrev pub from_below_at : List ℕ → Read ℕ FieldTest
from_below_at bytes = either_at (λ c. c == 60) below_at from_above_at bytes

-- a test of a field: `=` or one of these
abbrev pub field_test_at : List ℕ → Read ℕ FieldTest
field_test_at bytes = either_at (λ c. c == 61) equal_at from_below_at bytes
