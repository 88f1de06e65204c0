-- Reading a filter.
use Rattle.std.specs.Prelude.{ℕ, ◌-◌, Bool, ◌&&◌, List, [], ◌∷◌, map, nat_lt, ◌==◌}
use Rattle.df_filter.specs.Limits.{most_clauses}
use Rattle.df_filter.specs.declared.clause.Clause.{Clause}
use Rattle.df_filter.specs.declared.clause.Test.{Test}
use Rattle.df_filter.specs.declared.clause.Test.TheVariants as test
use Rattle.df_filter.specs.declared.field_test.FieldTest.{FieldTest}
use Rattle.df_filter.specs.declared.field_test.FieldTest.TheVariants as field
use Rattle.df_format.specs.Reading.{Read, as_at, then_at, either_at, text_at, behind_at, items_at}
use Rattle.df_filter_text.specs.ReadFieldTest.{field_test_at}
use Rattle.df_value_text.specs.ReadName.{name_at}
use Rattle.df_value_text.specs.ReadTag.{listed}

-- what is asked of a field, asked of the value itself
abbrev pub test_of : FieldTest → Test
test_of (field.IntEq n) = test.IntEq n
test_of (field.IntLess n) = test.IntLess n
test_of (field.IntMore n) = test.IntMore n
test_of (field.IntIn low high) = test.IntIn low high
test_of (field.TextEq text) = test.TextEq text
test_of (field.TextPrefix text) = test.TextPrefix text

-- `?`
abbrev pub present_at : List ℕ → Read ℕ Test
present_at bytes = as_at (λ sign. test.Present) (text_at (63 ∷ [])) bytes

-- the test of a field, by its name
abbrev pub key_of : List ℕ × FieldTest → Test
key_of asked = test.Key asked.0 asked.1

-- `.`, a field's name and what is asked of the field
abbrev pub key_at : List ℕ → Read ℕ Test
key_at bytes = as_at key_of (behind_at (46 ∷ []) (then_at name_at field_test_at)) bytes

-- what is asked of the value itself
abbrev pub value_test_at : List ℕ → Read ℕ Test
value_test_at bytes = as_at test_of field_test_at bytes

-- a field or the value itself, as the first byte tells
abbrev pub from_key_at : List ℕ → Read ℕ Test
from_key_at bytes = either_at (λ c. c == 46) key_at value_test_at bytes

-- a test: `?` or one of these
abbrev pub test_at : List ℕ → Read ℕ Test
test_at bytes = either_at (λ c. c == 63) present_at from_key_at bytes

-- the clause of a name and a test
abbrev pub clause_of : List ℕ × Test → Clause
clause_of parts = record { name = parts.0; test = parts.1 }

-- a name and a test
abbrev pub clause_at : List ℕ → Read ℕ Clause
clause_at bytes = as_at clause_of (then_at name_at test_at) bytes

-- a clause, and how many may stand behind it
abbrev pub Placed : Type 0
Placed = Clause × ℕ

abbrev pub with_room : ℕ → Clause → Placed
with_room room clause = (clause, room)

abbrev pub placed_at : ℕ → List ℕ → Read ℕ Placed
placed_at room bytes = as_at (with_room room) clause_at bytes

-- `&` leads on to another, where there is room for one
abbrev pub leads_clause : Placed → ℕ → List ℕ → Bool
leads_clause prev c cs = (c == 38) && nat_lt 0 prev.1

abbrev pub next_clause_at : Placed → List ℕ → Read ℕ Placed
next_clause_at prev bytes = placed_at (prev.1 - 1) bytes

-- at least one clause, and no more than a filter has
abbrev pub placed_clauses_at : List ℕ → Read ℕ (Placed × List Placed)
placed_clauses_at bytes =
    items_at leads_clause (placed_at (most_clauses - 1)) next_clause_at bytes

abbrev pub clauses_of : Placed × List Placed → List Clause
clauses_of ps = map (λ p. p.0) (listed ps)

abbrev pub filter_at : List ℕ → Read ℕ (List Clause)
filter_at bytes = as_at clauses_of placed_clauses_at bytes
