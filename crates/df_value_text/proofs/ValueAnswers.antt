-- What reading says of the values that stand in it.
use Rattle.df_value_text.proofs.Names.{value_at, ◌≡◌, ℕ, ◌<◌, ◌≤◌, true, false, take, List, [], ◌∷◌, ◌++◌, length, drop, Ok, Err, refl, sym, ap, subst, ◌∙◌, arith, ◌⊎◌, inl, inr, append_assoc, length-drop, length-take-le, drop_all, pos, Bad, Low, CanGoOn, Stands, Ends, ok_is, not_both, told, can_go_on, IsWithinLimits, Plain, int, IsFound, IsSpelled, IsValue, LowInValue, value_text, FirstBad, no_longer, first_bad, FirstLow, LowWithin}
use Rattle.df_value_text.proofs.CountingEnds.{front_whole}
use Rattle.df_value_text.proofs.TagLaws.{nowhere, nowhere_is_local}
use Rattle.df_value_text.proofs.ValueLaws.{value_goes, value_format, zero_fits}
use Rattle.df_value_text.proofs.LowLaws.{low_read}
use Rattle.df_value_text.proofs.WholeLaws.{whole_format}

-- with a byte with which a value doesn't go on, no value begins
pub value_ends : (p : Plain) (c : ℕ) → IsSpelled p → value_goes p c ≡ false → CanGoOn value_text IsSpelled (value_text p ++ c ∷ []) → ⊥
value_ends p c fits g on = no_longer LowWithin value_text IsSpelled value_goes value_at value_format p c fits g on

-- what goes on is a number, and a longer one is within the limits too
pub value_on : (p : Plain) (c : ℕ) → IsSpelled p → value_goes p c ≡ true → CanGoOn value_text IsValue (value_text p ++ c ∷ [])
value_on (int z) c fits g =
    let v = (whole_format nowhere nowhere_is_local).on z c fits g in
    record { some = int v.some; fits = (v.fits, record { nodes = omega arith; bytes = omega arith; flat = omega arith }); more = v.more; is = v.is }
value_on _ c fits g = absurd (let no_end : false ≡ true = g in cc)

pub stands_ends : (p : Plain) (rest : List ℕ) → IsSpelled p
    → ((c : ℕ) (tail : List ℕ) → rest ≡ c ∷ tail → CanGoOn value_text IsValue (value_text p ++ c ∷ []) → ⊥) → Ends value_goes p rest
stands_ends p [] fits ends = tt
stands_ends p (c ∷ rest) fits ends = elim (told (value_goes p c)) [ inl h ↦ absurd (ends c rest refl (value_on p c fits h)) | inr h ↦ h ]

pub value_read : (text : List ℕ) (p : Plain) (rest : List ℕ) → Stands value_text IsValue text p rest → value_at text ≡ Ok (p, rest)
value_read text p rest s = ap value_at s.parts ∙ value_format.again p rest s.fits.0 (stands_ends p rest s.fits.0 s.ends)

-- ---- a value that is read

pub found_value : (text : List ℕ) (at end : ℕ) (p q : Plain) → q ≡ p → IsWithinLimits p
    → (end ≤ length text) × (value_at (drop at text) ≡ Ok (p, drop end text)) → IsFound value_text IsValue text at (q, end)
found_value text at end p q is limits h =
    let f = value_format.found (drop at text) p (drop end text) h.1 in (
      h.0,
      subst (λ (r : Plain). Stands value_text IsValue (drop at text) r (drop end text)) (sym is) (record {
        parts = f.parts;
        fits = (f.fits, limits);
        ends = λ c tail same on. value_ends p c f.fits (subst (Ends value_goes p) same f.ends)
            (record { some = on.some; fits = on.fits.0; more = on.more; is = on.is });
      }),
    )

-- one value stands there
pub stands_once : (text : List ℕ) (p : Plain) (behind : List ℕ) → Stands value_text IsValue text p behind → (y : Plain) (rest : List ℕ)
    → Stands value_text IsValue text y rest → (p ≡ y) × (behind ≡ rest)
stands_once text p behind s y rest other =
    let both = ok_is (p, behind) (y, rest) (sym (value_read text p behind s) ∙ value_read text y rest other) in
    (ap (λ (q : Plain × List ℕ). q.0) both, ap (λ (q : Plain × List ℕ). q.1) both)

-- where a value is read, no low name stands
pub no_low_name : (text : List ℕ) (x : Plain × List ℕ) → value_at text ≡ Ok x → (rest : List ℕ) → LowInValue text rest → ⊥
no_low_name text x e rest low = not_both x (Low rest) (sym e ∙ low_read text rest low)

ends_longer : (p : Plain) (here behind : List ℕ) → (0 < length here) ⊎ (behind ≡ []) → Ends value_goes p here → Ends value_goes p (here ++ behind)
ends_longer p [] behind (inl some) ends = absurd (omega (arith, some))
ends_longer p [] behind (inr none) ends = rw none tt
ends_longer p (c ∷ here) behind room ends = ends

-- a value that is read in front of a place is so in the whole, if that is the end, or if it ends before
pub near_read : (text : List ℕ) (at stop end : ℕ) (p : Plain) → stop ≤ length text → at ≤ stop → (end < stop) ⊎ (stop ≡ length text)
    → (end ≤ length (take stop text)) × (value_at (drop at (take stop text)) ≡ Ok (p, drop end (take stop text)))
    → (end ≤ length text) × (value_at (drop at text) ≡ Ok (p, drop end text))
near_read text at stop end p within start room read =
    let f = value_format.found (drop at (take stop text)) p (drop end (take stop text)) read.1 in
    let size = length-take-le stop text within in
    let here : List ℕ = drop end (take stop text) in
    let behind : List ℕ = drop stop text in
    let parts : drop at text ≡ value_text p ++ (here ++ behind) = sym (front_whole text stop at within start)
    ∙ ap (λ (u : List ℕ). u ++ behind) f.parts ∙ append_assoc (value_text p) here behind in
    let more : (0 < length here) ⊎ (behind ≡ []) = elim room [
      | inl k ↦ inl (omega (arith, k, size, length-drop end (take stop text)))
      | inr k ↦ inr (drop_all stop text (omega (arith, k)))
    ] in
    let again = value_format.again p (here ++ behind) f.fits (ends_longer p here behind more f.ends) in (
      omega (arith, read.0, size, within),
      ap value_at parts ∙ again ∙ ap (λ (u : List ℕ). Ok (p, u)) (front_whole text stop end within (omega (arith, read.0, size))),
    )

-- a place that is refused
pub first_bad_value : (text rest : List ℕ) → value_at text ≡ Err (Bad rest) → FirstBad value_text IsSpelled text rest
first_bad_value text rest e = first_bad LowWithin value_text IsSpelled value_goes value_at value_format (int (pos 0)) zero_fits text rest e

pub first_low_value : (text rest : List ℕ) → value_at text ≡ Err (Low rest) → FirstLow LowWithin value_text IsSpelled text rest
first_low_value text rest e =
    let s = value_format.stuck text (Low rest) e in
    record { front = s.front; parts = s.parts; viable = can_go_on value_text IsSpelled (int (pos 0)) zero_fits s.front s.viable; low = s.cause }
