-- Which filters have a spelling.
use Rattle.std.specs.Prelude.{◌≡◌, true, ◌<◌, ◌≤◌, List, [], ◌∷◌, length, IsUtf8, ⊤}
use Rattle.df_frozen.specs.Name.{is_name}
use Rattle.df_filter.specs.Limits.{most_clauses}
use Rattle.df_filter.specs.declared.clause.Clause.{Clause}
use Rattle.df_filter.specs.declared.clause.Test.{Test}
use Rattle.df_filter.specs.declared.clause.Test.TheVariants as test
use Rattle.df_filter.specs.declared.field_test.FieldTest.{FieldTest}
use Rattle.df_filter.specs.declared.field_test.FieldTest.TheVariants as field
use Rattle.df_value_text.specs.ReadWhole.{IsWhole}

-- a test of a field: its numbers have 64 bits, and its words are a text
abbrev pub IsFieldTest : FieldTest → Type 0
IsFieldTest (field.IntEq n) = IsWhole n
IsFieldTest (field.IntLess n) = IsWhole n
IsFieldTest (field.IntMore n) = IsWhole n
IsFieldTest (field.IntIn low high) = IsWhole low × IsWhole high
IsFieldTest (field.TextEq text) = IsUtf8 text
IsFieldTest (field.TextPrefix text) = IsUtf8 text

-- a test, alike; a field has a name
abbrev pub IsTest : Test → Type 0
IsTest test.Present = ⊤
IsTest (test.IntEq n) = IsWhole n
IsTest (test.IntLess n) = IsWhole n
IsTest (test.IntMore n) = IsWhole n
IsTest (test.IntIn low high) = IsWhole low × IsWhole high
IsTest (test.TextEq text) = IsUtf8 text
IsTest (test.TextPrefix text) = IsUtf8 text
IsTest (test.Key name asked) = (is_name name ≡ true) × IsFieldTest asked

-- a clause: a name and a test
abbrev pub IsClause : Clause → Type 0
IsClause clause = (is_name clause.name ≡ true) × IsTest clause.test

abbrev pub AreClauses : List Clause → Type 0
AreClauses [] = ⊤
AreClauses (clause ∷ clauses) = IsClause clause × AreClauses clauses

-- a filter: at least one clause, and no more than a filter has
abbrev pub IsFilter : List Clause → Type 0
IsFilter clauses = AreClauses clauses × (0 < length clauses) × (length clauses ≤ most_clauses)
