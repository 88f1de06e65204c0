-- Tests and clauses are read as they are spelled.
use Rattle.df_filter_text.proofs.Names.{◌≡◌, ℕ, Bool, false, [], ◌∷◌, Option, Some, None, refl, sym, ap, subst, ◌⊎◌, inl, inr, ℤ, pos, is_ascii_digit, Format, IsText, text_format, nowhere, Of, made, viewed, Clause, FieldTest, ThenFits, IsName, field_test_text, test_text, clause_text, IsFieldTest, IsTest, IsClause, test_of, present_at, key_of, key_at, value_test_at, test_at, clause_of, clause_at}
use Rattle.df_filter.specs.declared.clause.Test.{Test}
use Rattle.df_filter.specs.declared.clause.Test.TheVariants as test
use Rattle.df_filter.specs.declared.field_test.FieldTest.TheVariants as field
use Rattle.df_filter_text.proofs.FieldTestLaws.{last_number, goes_last, ends_last, zero_fits, signs, field_test_kind}
use Rattle.df_filter_text.proofs.Signs.{Kind, made_kind, signed, kind_as, choose, named}

-- ---- tests

-- the number that stands last in a test
abbrev pub last_of : Test → Option ℤ
last_of test.Present = None
last_of (test.IntEq n) = Some n
last_of (test.IntLess n) = Some n
last_of (test.IntMore n) = Some n
last_of (test.IntIn low high) = Some high
last_of (test.TextEq text) = None
last_of (test.TextPrefix text) = None
last_of (test.Key name asked) = last_number asked

abbrev pub test_goes : Test → ℕ → Bool
test_goes t c = goes_last (last_of t) c

-- what is asked of a field is asked of the value itself in the same words
same_words : (t : FieldTest) → (test_text (test_of t) ≡ field_test_text t) × (last_of (test_of t) ≡ last_number t) × (IsFieldTest t → IsTest (test_of t))
same_words (field.IntEq n) = (refl, refl, λ h. h)
same_words _ = (refl, refl, λ h. h)

abbrev IsPresent : Test → Type 0
IsPresent t = Of (λ sign. test.Present) (IsText (63 ∷ [])) t

present_kind : Kind test_text test_goes (63 ∷ []) IsPresent present_at
present_kind = record {
  law = made (λ sign. test.Present) (text_format nowhere (63 ∷ [])) (λ x h. sym h) (λ x c h. refl);
  first = λ t h. (63, [], inl refl, ap test_text (sym h.2));
}

key_kind : Kind test_text test_goes (46 ∷ []) (Of key_of (ThenFits IsName IsFieldTest)) key_at
key_kind =
    signed 46 key_of (97 ∷ [], field.IntEq (pos 0)) (refl, zero_fits)
    (named field_test_kind (refl, (refl, (refl, (refl, (refl, tt))))) (field.IntEq (pos 0)) zero_fits)
    (λ p h. refl) (λ p c h. refl)

value_kind : Kind test_text test_goes signs (Of test_of IsFieldTest) value_test_at
value_kind = made_kind test_of field_test_kind (λ t h. (same_words t).0) (λ t c h. ap (λ (z : Option ℤ). goes_last z c) (same_words t).1)

abbrev AnyTest : Test → Type 0
AnyTest t = IsPresent t ⊎ (Of key_of (ThenFits IsName IsFieldTest) t ⊎ Of test_of IsFieldTest t)

to_test : (t : Test) → AnyTest t → IsTest t
to_test t (inl m) = subst IsTest m.2 tt
to_test t (inr (inl m)) = subst IsTest m.2 m.1
to_test t (inr (inr m)) = subst IsTest m.2 ((same_words m.0).2 m.1)

from_test : (t : Test) → IsTest t → AnyTest t
from_test test.Present h = inl (63 ∷ [], refl, refl)
from_test (test.IntEq n) h = inr (inr (field.IntEq n, h, refl))
from_test (test.IntLess n) h = inr (inr (field.IntLess n, h, refl))
from_test (test.IntMore n) h = inr (inr (field.IntMore n, h, refl))
from_test (test.IntIn low high) h = inr (inr (field.IntIn low high, h, refl))
from_test (test.TextEq text) h = inr (inr (field.TextEq text, h, refl))
from_test (test.TextPrefix text) h = inr (inr (field.TextPrefix text, h, refl))
from_test (test.Key name asked) h = inr (inl ((name, asked), h, refl))

test_kind : Kind test_text test_goes (63 ∷ 46 ∷ signs) IsTest test_at
test_kind = kind_as to_test from_test
    (choose 63 present_kind (choose 46 key_kind value_kind (refl, (refl, (refl, (refl, (refl, tt)))))) (refl, (refl, (refl, (refl, (refl, (refl, tt)))))))

-- ---- clauses

abbrev pub clause_goes : Clause → ℕ → Bool
clause_goes clause c = test_goes clause.test c

-- a clause ends before a byte that is no digit
pub clause_ends : (clause : Clause) (c : ℕ) → is_ascii_digit c ≡ false → clause_goes clause c ≡ false
clause_ends clause c h = ends_last (last_of clause.test) c h

pub clause_format : Format nowhere clause_text IsClause clause_goes clause_at
clause_format =
    viewed clause_of (named test_kind (refl, (refl, (refl, (refl, (refl, (refl, (refl, tt))))))) test.Present tt)
    (record { to = λ p h. h; from = λ clause h. ((clause.name, clause.test), h, refl); spelled = λ p h. refl; alike = λ p c h. refl })
