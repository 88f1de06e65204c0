-- What a clause asks of a part.
use Rattle.std.specs.Prelude.{ℕ, Bool, true, ◌&&◌, List}
use Rattle.std.specs.Str.{bytes_eq}
use Rattle.df_frozen.specs.Plain.{Plain}
use Rattle.df_filter.specs.Asked.{begins_with, equals_int, equals_words, field_of, is_above, is_below, is_between, some_passes}
use Rattle.df_filter.specs.FieldTest.{field_holds}
use Rattle.df_filter.specs.declared.clause.Clause.{Clause}
use Rattle.df_filter.specs.declared.clause.Test.{Test}
use Rattle.df_filter.specs.declared.clause.Test.TheVariants.{Present, IntEq, IntLess, IntMore, IntIn, TextEq, TextPrefix, Key}

-- whether the test holds of plain content
abbrev pub test_holds : Test → Plain → Bool
test_holds Present value = true
test_holds (IntEq n) value = equals_int n value
test_holds (IntLess n) value = is_below n value
test_holds (IntMore n) value = is_above n value
test_holds (IntIn low high) value = is_between low high value
test_holds (TextEq text) value = equals_words text value
test_holds (TextPrefix text) value = begins_with text value
test_holds (Key field test) value = some_passes (field_holds test) (field_of field value)

-- whether a part of this name and plain content serves the clause
abbrev pub holds : Clause → List ℕ → Plain → Bool
holds clause name value = bytes_eq clause.name name && test_holds clause.test value
