-- What a test asks of the value of a field.
use Rattle.std.specs.Prelude.{Bool}
use Rattle.df_frozen.specs.Plain.{Plain}
use Rattle.df_filter.specs.Asked.{begins_with, equals_int, equals_words, is_above, is_below, is_between}
use Rattle.df_filter.specs.declared.field_test.FieldTest.{FieldTest}
use Rattle.df_filter.specs.declared.field_test.FieldTest.TheVariants.{IntEq, IntLess, IntMore, IntIn, TextEq, TextPrefix}

-- whether the test holds of plain content
abbrev pub field_holds : FieldTest → Plain → Bool
field_holds (IntEq n) value = equals_int n value
field_holds (IntLess n) value = is_below n value
field_holds (IntMore n) value = is_above n value
field_holds (IntIn low high) value = is_between low high value
field_holds (TextEq text) value = equals_words text value
field_holds (TextPrefix text) value = begins_with text value
