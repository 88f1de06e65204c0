-- Names of units and events that are spelled are read back.
use Rattle.df_journal_text.proofs.Names.{◌≡◌, ℕ, false, eqb, List, [], ◌∷◌, ◌++◌, None, Ok, decimal, refl, ap, ◌∙◌, append_assoc, is_ascii_digit, maybe_at, closed_at, path_text, tags_text, numbers_at, short_at, tags_at, EndsWord, EndsPath, path_back, digits_back, short_back, braced_back, UnitName, Root, Managed, IsUnit, IsEvent, unit_text, event_text, instance_at, unit_at, event_at}
use Rattle.df_journal_text.proofs.WordBacks.{Word}
use Rattle.df_value_text.proofs.WordEnds.{at_break}

-- no path and no instance goes on with what stands there
abbrev pub EndsUnit : List ℕ → Type 0
EndsUnit [] = Unit {0}
EndsUnit (c ∷ rest) = (is_ascii_digit c ≡ false) × (eqb c 46 ≡ false) × (eqb c 47 ≡ false)

path_ends : (rest : List ℕ) → EndsUnit rest → EndsPath rest
path_ends [] end = tt
path_ends (c ∷ rest) end = (end.0, end.1)

no_instance : (rest : List ℕ) → EndsUnit rest → maybe_at (λ c. eqb c 47) instance_at rest ≡ Ok (None, rest)
no_instance [] end = refl
no_instance (c ∷ rest) end = rw end.2 refl

pub unit_back : (unit : UnitName) (rest : List ℕ) → IsUnit unit → EndsUnit rest → unit_at (unit_text unit ++ rest) ≡ Ok (unit, rest)
unit_back (Root path) rest fits end = rw (path_back path rest fits (path_ends rest end), no_instance rest end) refl
unit_back (Managed owner sub s) rest fits end =
    let braces : List ℕ = (123 ∷ tags_text s) ++ 125 ∷ [] in
    let whole : unit_text (Managed owner sub s) ++ rest ≡ path_text owner ++ (47 ∷ (decimal sub ++ (braces ++ rest))) = simp append_assoc in
    let one : numbers_at (path_text owner ++ (47 ∷ (decimal sub ++ (braces ++ rest)))) ≡ Ok (owner, 47 ∷ (decimal sub ++ (braces ++ rest))) = path_back owner
    (47 ∷ (decimal sub ++ (braces ++ rest))) fits.0 (refl, refl) in
    let two : short_at (decimal sub ++ (braces ++ rest)) ≡ Ok (sub, braces ++ rest) = digits_back sub (braces ++ rest) fits.1 (refl, refl) in
    let three : closed_at (125 ∷ []) tags_at ((tags_text s ++ 125 ∷ []) ++ rest) ≡ Ok (s, rest) = braced_back s rest fits.2 in
    ap unit_at whole ∙ rw (one, two, three) refl

-- a unit's name is a word
break_ends : (rest : List ℕ) → EndsWord rest → EndsUnit rest
break_ends [] end = tt
break_ends (c ∷ rest) end = (at_break is_ascii_digit refl refl c end, at_break (λ c. eqb c 46) refl refl c end, at_break (λ c. eqb c 47) refl refl c end)

pub unit_word : Word unit_text IsUnit unit_at
unit_word = record { back = λ unit rest fits end. unit_back unit rest fits (break_ends rest end) }

pub event_word : Word event_text IsEvent event_at
event_word = record {
  back = λ event rest fits end.
      let whole : event_text event ++ rest ≡ unit_text event.unit ++ (33 ∷ (decimal event.number ++ rest)) = simp append_assoc in
      let one : unit_at (unit_text event.unit ++ (33 ∷ (decimal event.number ++ rest))) ≡ Ok (event.unit, 33 ∷ (decimal event.number ++ rest)) = unit_back
      event.unit (33 ∷ (decimal event.number ++ rest)) fits.0 (refl, refl, refl) in
      let two : short_at (decimal event.number ++ rest) ≡ Ok (event.number, rest) = short_back event.number rest fits.1 end in
      ap event_at whole ∙ rw (one, two) refl;
}
