-- Tests of fields are read as they are spelled.
use Rattle.df_filter_text.proofs.Names.{byte_refuses, either_by, ◌≡◌, ℕ, Bool, false, eqb, List, [], ◌∷◌, ◌++◌, Option, Some, None, drop, refl, subst, arith, ◌⊎◌, inl, inr, ℤ, pos, is_ascii_digit, either_at, then_at, closed_at, Format, ends_never, then_second_format, then_goes, behind_format, closed_format, nowhere, nowhere_is_local, Of, made, told_as, FieldTest, then_spell, ThenFits, field_test_text, IsFieldTest}
use Rattle.std.specs.Prelude.{IsUtf8}
use Rattle.df_frozen.specs.Plain.{int}
use Rattle.std.specs.Fmt.{signed_decimal}
use Rattle.std.proofs.lemmas.Str.{IsUtf8-nil}
use Rattle.df_value_text.specs.ReadWhole.{IsWhole, whole_at}
use Rattle.df_filter.specs.declared.field_test.FieldTest.TheVariants.{IntEq, IntLess, IntMore, IntIn, TextEq, TextPrefix}
use Rattle.df_value_text.proofs.ValueLaws.{value_apart}
use Rattle.df_value_text.proofs.WholeLaws.{whole_goes, whole_format}
use Rattle.df_value_text.proofs.WordsLaws.{words_format}
use Rattle.df_filter_text.specs.ReadFieldTest.{words_equal_at, whole_equal_at, equal_at, below_at, above_at, range_of, range_at, prefix_at, field_test_at}
use Rattle.df_filter_text.proofs.Signs.{Kind, signed, kind_as, choose}

-- ---- where a test ends

-- the number that stands last in it
abbrev pub last_number : FieldTest → Option ℤ
last_number (IntEq n) = Some n
last_number (IntLess n) = Some n
last_number (IntMore n) = Some n
last_number (IntIn low high) = Some high
last_number (TextEq text) = None
last_number (TextPrefix text) = None

abbrev pub goes_last : Option ℤ → ℕ → Bool
goes_last None c = false
goes_last (Some z) c = whole_goes z c

-- a number goes on with digits alone
pub ends_last : (last : Option ℤ) (c : ℕ) → is_ascii_digit c ≡ false → goes_last last c ≡ false
ends_last None c h = refl
ends_last (Some z) c h = value_apart (int z) c h

abbrev pub field_test_goes : FieldTest → ℕ → Bool
field_test_goes t c = goes_last (last_number t) c

-- ---- one kind of test

pub zero_fits : IsWhole (pos 0)
zero_fits = omega arith

whole_law : Format nowhere signed_decimal IsWhole whole_goes whole_at
whole_law = whole_format nowhere nowhere_is_local

abbrev IsEqual : FieldTest → Type 0
IsEqual t = Of (λ text. TextEq text) IsUtf8 t ⊎ Of (λ n. IntEq n) IsWhole t

-- what stands behind the sign
abbrev behind_sign : FieldTest → List ℕ
behind_sign t = drop 1 (field_test_text t)

equal_law : Format nowhere behind_sign IsEqual field_test_goes (either_at (λ c. eqb c 34) words_equal_at whole_equal_at)
equal_law =
    either_by (λ c. eqb c 34) (made (λ text. TextEq text) words_format (λ text h. refl) (λ text c h. refl))
    (made (λ n. IntEq n) whole_law (λ z h. refl) (λ z c h. refl))
    (record { none = refl; first = λ c cs h. rw h refl }) (byte_refuses 34 refl (λ cs. refl))

equal_signed : (t : FieldTest) → IsEqual t → field_test_text t ≡ 61 ∷ behind_sign t
equal_signed t (inl m) = subst (λ (u : FieldTest). field_test_text u ≡ 61 ∷ behind_sign u) m.2 refl
equal_signed t (inr m) = subst (λ (u : FieldTest). field_test_text u ≡ 61 ∷ behind_sign u) m.2 refl

equal_kind : Kind field_test_text field_test_goes (61 ∷ []) IsEqual equal_at
equal_kind = record {
  law = told_as equal_signed (λ t c h. refl)
      (behind_format (61 ∷ []) (nowhere_is_local (61 ∷ [])) (IntEq (pos 0)) (inr (pos 0, zero_fits, refl)) equal_law);
  first = λ t h. (61, behind_sign t, inl refl, equal_signed t h);
}

below_kind : Kind field_test_text field_test_goes (60 ∷ []) (Of (λ n. IntLess n) IsWhole) below_at
below_kind = signed 60 (λ n. IntLess n) (pos 0) zero_fits whole_law (λ z h. refl) (λ z c h. refl)

above_kind : Kind field_test_text field_test_goes (62 ∷ []) (Of (λ n. IntMore n) IsWhole) above_at
above_kind = signed 62 (λ n. IntMore n) (pos 0) zero_fits whole_law (λ z h. refl) (λ z c h. refl)

abbrev low_text : ℤ → List ℕ
low_text low = signed_decimal low ++ 46 ∷ 46 ∷ []

ends_law : Format nowhere (then_spell low_text signed_decimal) (ThenFits IsWhole IsWhole) (then_goes whole_goes)
    (then_at (closed_at (46 ∷ 46 ∷ []) whole_at) whole_at)
ends_law =
    then_second_format nowhere_is_local (closed_format 46 (46 ∷ []) (λ z fits. ends_last (Some z) 46 refl) whole_law) whole_law (pos 0) zero_fits
    (λ x y rest fx fy ends. ends_never x (signed_decimal y ++ rest))

range_kind : Kind field_test_text field_test_goes (58 ∷ []) (Of range_of (ThenFits IsWhole IsWhole)) range_at
range_kind = signed 58 range_of (pos 0, pos 0) (zero_fits, zero_fits) ends_law (λ ends h. refl) (λ ends c h. refl)

prefix_kind : Kind field_test_text field_test_goes (94 ∷ []) (Of (λ text. TextPrefix text) IsUtf8) prefix_at
prefix_kind = signed 94 (λ text. TextPrefix text) [] IsUtf8-nil words_format (λ text h. refl) (λ text c h. refl)

-- ---- each of them

abbrev FromBelow : FieldTest → Type 0
FromBelow t = Of (λ n. IntLess n) IsWhole t
    ⊎ (Of (λ n. IntMore n) IsWhole t ⊎ (Of range_of (ThenFits IsWhole IsWhole) t ⊎ Of (λ text. TextPrefix text) IsUtf8 t))

fits_to : (t : FieldTest) → IsEqual t ⊎ FromBelow t → IsFieldTest t
fits_to t (inl (inl m)) = subst IsFieldTest m.2 m.1
fits_to t (inl (inr m)) = subst IsFieldTest m.2 m.1
fits_to t (inr (inl m)) = subst IsFieldTest m.2 m.1
fits_to t (inr (inr (inl m))) = subst IsFieldTest m.2 m.1
fits_to t (inr (inr (inr (inl m)))) = subst IsFieldTest m.2 m.1
fits_to t (inr (inr (inr (inr m)))) = subst IsFieldTest m.2 m.1

fits_from : (t : FieldTest) → IsFieldTest t → IsEqual t ⊎ FromBelow t
fits_from (IntEq n) h = inl (inr (n, h, refl))
fits_from (IntLess n) h = inr (inl (n, h, refl))
fits_from (IntMore n) h = inr (inr (inl (n, h, refl)))
fits_from (IntIn low high) h = inr (inr (inr (inl ((low, high), h, refl))))
fits_from (TextEq text) h = inl (inl (text, h, refl))
fits_from (TextPrefix text) h = inr (inr (inr (inr (text, h, refl))))

-- the bytes with which one begins
abbrev pub signs : List ℕ
signs = 61 ∷ 60 ∷ 62 ∷ 58 ∷ 94 ∷ []

pub field_test_kind : Kind field_test_text field_test_goes signs IsFieldTest field_test_at
field_test_kind =
    kind_as fits_to fits_from (choose 61 equal_kind (choose 60 below_kind (choose 62 above_kind (choose 58 range_kind prefix_kind
    (refl, tt)) (refl, (refl, tt))) (refl, (refl, (refl, tt)))) (refl, (refl, (refl, (refl, tt)))))
