-- How tests of a field are spelled.
use Rattle.std.specs.Prelude.{ℕ, ℤ, List, ◌++◌, codes}
use Rattle.std.specs.Fmt.{signed_decimal}
use Rattle.df_filter.specs.declared.field_test.FieldTest.{FieldTest}
use Rattle.df_filter.specs.declared.field_test.FieldTest.TheVariants.{IntEq, IntLess, IntMore, IntIn, TextEq, TextPrefix}
use Rattle.df_value_text.specs.Value.{words_text}

-- the lowest and the highest number, with `..` between them
abbrev pub range_text : ℤ → ℤ → List ℕ
range_text low high = signed_decimal low ++ codes ".." ++ signed_decimal high

-- what a test adds to the name of a field
abbrev pub field_test_text : FieldTest → List ℕ
field_test_text (IntEq n) = codes "=" ++ signed_decimal n
field_test_text (IntLess n) = codes "<" ++ signed_decimal n
field_test_text (IntMore n) = codes ">" ++ signed_decimal n
field_test_text (IntIn low high) = codes ":" ++ range_text low high
field_test_text (TextEq text) = codes "=" ++ words_text text
field_test_text (TextPrefix text) = codes "^" ++ words_text text
