-- How filters are spelled.
use Rattle.std.specs.Prelude.{ℕ, List, ◌++◌, codes}
use Rattle.std.specs.Fmt.{signed_decimal}
use Rattle.df_filter.specs.declared.clause.Clause.{Clause}
use Rattle.df_filter.specs.declared.clause.Test.{Test}
use Rattle.df_filter.specs.declared.clause.Test.TheVariants.{Present, IntEq, IntLess, IntMore, IntIn, TextEq, TextPrefix, Key}
use Rattle.df_filter_text.specs.FieldTest.{field_test_text, range_text}
use Rattle.df_value_text.specs.Join.{joined}
use Rattle.df_value_text.specs.Value.{words_text}

-- what a test adds to a name
abbrev pub test_text : Test → List ℕ
test_text Present = codes "?"
test_text (IntEq n) = codes "=" ++ signed_decimal n
test_text (IntLess n) = codes "<" ++ signed_decimal n
test_text (IntMore n) = codes ">" ++ signed_decimal n
test_text (IntIn low high) = codes ":" ++ range_text low high
test_text (TextEq text) = codes "=" ++ words_text text
test_text (TextPrefix text) = codes "^" ++ words_text text
test_text (Key field test) = codes "." ++ field ++ field_test_text test

-- a clause: its name and its test
abbrev pub clause_text : Clause → List ℕ
clause_text clause = clause.name ++ test_text clause.test

-- a filter: its clauses with `&` between them
abbrev pub filter_text : List Clause → List ℕ
filter_text clauses = joined 38 clause_text clauses
