-- A literal that is written stands there where a word ends.
use Rattle.df_value_text.proofs.Names.{is_ascii_digit, ◌≡◌, ℕ, Bool, false, eqb, List, [], ◌∷◌, ◌++◌, refl, sym, subst, inl, inr, Stands, Ends, never, ends_never, stands, Plain, Label, Privilege, Right, Plus, Minus, PlusAuth, MinusAuth, IsLabel, IsPrivilege, IsTag, IsValue, label_text, privilege_text, tag_text, IsLowTag, label_at, privilege_at, tag_at, value_text, EndsWord, IsBreak}
use Rattle.df_value_text.proofs.LabelLaws.{label_format, privilege_format, privilege_goes, right_goes}
use Rattle.df_value_text.proofs.NumberLaws.{number_apart, number_goes}
use Rattle.df_value_text.proofs.TagLaws.{nowhere, nowhere_is_local, tag_ends_at, tag_goes, tag_format}
use Rattle.df_value_text.proofs.ValueAnswers.{value_ends}
use Rattle.df_value_text.proofs.ValueLaws.{value_apart, value_goes}

-- what ends at a space and at a line feed ends where a word does
pub at_break : (goes : ℕ → Bool) → goes 32 ≡ false → goes 10 ≡ false → (c : ℕ) → IsBreak c → goes c ≡ false
at_break goes space feed c (inl h) = subst (λ (b : ℕ). goes b ≡ false) (sym h) space
at_break goes space feed c (inr h) = subst (λ (b : ℕ). goes b ≡ false) (sym h) feed

pub ends_word : {X : Type 0} (goes : X → ℕ → Bool) (x : X) (rest : List ℕ) → ((c : ℕ) → IsBreak c → goes x c ≡ false) → EndsWord rest → Ends goes x rest
ends_word goes x [] stops h = tt
ends_word goes x (c ∷ rest) stops h = stops c h

pub number_stops : (most n c : ℕ) → IsBreak c → number_goes most n c ≡ false
number_stops most n c h = number_apart most n c (at_break is_ascii_digit refl refl c h)

pub tag_stops : (tag rest : List ℕ) → EndsWord rest → Ends tag_goes tag rest
tag_stops tag rest h =
    ends_word tag_goes tag rest (λ c k. tag_ends_at tag c (at_break is_ascii_digit refl refl c k) (at_break (λ c. eqb c 46) refl refl c k)) h

right_stops : (r : Right) (c : ℕ) → IsBreak c → right_goes r c ≡ false
right_stops Plus c h = at_break (right_goes Plus) refl refl c h
right_stops Minus c h = at_break (right_goes Minus) refl refl c h
right_stops PlusAuth c h = refl
right_stops MinusAuth c h = refl

pub privilege_stops : (p : Privilege) (rest : List ℕ) → EndsWord rest → Ends privilege_goes p rest
privilege_stops p rest h = ends_word privilege_goes p rest (right_stops p.right) h

pub value_stops : (p : Plain) (c : ℕ) → IsBreak c → value_goes p c ≡ false
value_stops p c h = value_apart p c (at_break is_ascii_digit refl refl c h)

pub tag_stands : (tag rest : List ℕ) → IsTag tag → EndsWord rest → Stands tag_text IsTag (tag_text tag ++ rest) tag rest
tag_stands tag rest fits end =
    let f = tag_format nowhere nowhere_is_local in
    stands nowhere tag_text IsTag tag_goes tag_at f (tag_text tag ++ rest) tag rest (f.again tag rest fits (tag_stops tag rest end))

pub label_stands : (label : Label) (rest : List ℕ) → IsLabel label → EndsWord rest → Stands label_text IsLabel (label_text label ++ rest) label rest
label_stands label rest fits end = stands IsLowTag label_text IsLabel never label_at label_format (label_text label ++ rest) label rest
    (label_format.again label rest fits (ends_never label rest))

pub privilege_stands : (p : Privilege) (rest : List ℕ) → IsPrivilege p → EndsWord rest → Stands privilege_text IsPrivilege (privilege_text p ++ rest) p rest
privilege_stands p rest fits end = stands nowhere privilege_text IsPrivilege privilege_goes privilege_at privilege_format (privilege_text p ++ rest) p rest
    (privilege_format.again p rest fits (privilege_stops p rest end))

pub value_stands : (p : Plain) (rest : List ℕ) → IsValue p → EndsWord rest → Stands value_text IsValue (value_text p ++ rest) p rest
value_stands p rest fits end = record {
  parts = refl;
  fits = fits;
  ends = λ c tail is on.
      let stop : IsBreak c = subst EndsWord is end in
      value_ends p c fits.0 (value_stops p c stop) (record { some = on.some; fits = on.fits.0; more = on.more; is = on.is });
}
