-- Fronts of bytes, and bytes that are cut behind a place.
use Rattle.df_value_text.proofs.Names.{◌≡◌, ℕ, suc, ◌<◌, ◌≤◌, List, [], ◌∷◌, ◌++◌, length, length-append, refl, sym, ap, subst, ◌∙◌, append_assoc, arith, ◌⊎◌, inl, inr, nat_lt, nat_tests, append_cancel_right, CanGoOn, IsLongest, told, goes_on, own, AreWithin, FirstOver, IsOver, counts_of, IsSpelled, NameStandsLow, LowWithin, value_text, FirstBadValue, FirstLowName, FirstTooLarge, IsWithinBefore, append_cancel_left, same_split}
use Rattle.df_value_text.proofs.CountingEnds.{not_both}
use Rattle.df_value_text.proofs.CountingFronts.{never_over}
use Rattle.df_value_text.proofs.NameLaws.{name_size, IsName}

-- ---- fronts

-- what begins a front that can go on can go on
viable_front : (front more : List ℕ) → CanGoOn value_text IsSpelled (front ++ more) → CanGoOn value_text IsSpelled front
viable_front front more on = record { some = on.some; fits = on.fits; more = more ++ on.more; is = on.is ∙ append_assoc front more on.more }

-- a longer front that can go on makes the shorter one do so
pub viable_before : (front rest longer behind : List ℕ) → front ++ rest ≡ longer ++ behind → length behind ≤ length rest → CanGoOn value_text IsSpelled longer
    → CanGoOn value_text IsSpelled front
viable_before front rest longer behind e le on =
    let more = goes_on front rest longer behind e le in
    viable_front front more.0 (subst (CanGoOn value_text IsSpelled) more.1 on)

-- the bytes with the first byte over among those in front
pub with_over : (text rest : List ℕ) → (over : FirstOver text rest) → (over.front ++ over.first ∷ []) ++ over.more ≡ text
with_over text rest over = append_assoc over.front (over.first ∷ []) over.more ∙ sym over.parts

pub over_length : (text rest : List ℕ) → (over : FirstOver text rest) → length rest ≡ suc (length over.more)
over_length text rest over = ap (λ (u : List ℕ). length u) over.is

pub over_parts : (text rest : List ℕ) → (over : FirstOver text rest) → text ≡ over.front ++ rest
over_parts text rest over = over.parts ∙ ap (λ (u : List ℕ). over.front ++ u) (sym over.is)

-- no count is passed in front of a place that isn't behind the first byte over
pub within_in_front : (text rest here : List ℕ) → FirstOver text rest → length rest ≤ length here → IsWithinBefore text here
within_in_front text rest here over le front e =
    let on = goes_on front here over.front rest (sym e ∙ over_parts text rest over) le in
    never_over over.front over.within front on.0 on.1

-- a count is passed in front of a place behind the first byte over
pub over_behind : (text rest here front : List ℕ) → FirstOver text rest → length here < length rest → text ≡ front ++ here → AreWithin (counts_of front) → ⊥
over_behind text rest here front over lt e within =
    let long = over_length text rest over in
    let on = goes_on (over.front ++ over.first ∷ []) over.more front here (with_over text rest over ∙ e) (omega (arith, long, lt)) in
    not_both (counts_of (over.front ++ over.first ∷ [])) (never_over front within (over.front ++ over.first ∷ []) on.0 on.1) over.over

-- with the first byte over a value can go on, where one goes on behind it
pub first_too_large : (text rest here front : List ℕ) → FirstOver text rest → length here < length rest → text ≡ front ++ here
    → CanGoOn value_text IsSpelled front → FirstTooLarge text rest
first_too_large text rest here front over lt e on =
    let long = over_length text rest over in
    record {
      over = over;
      viable = viable_before (over.front ++ over.first ∷ []) over.more front here (with_over text rest over ∙ e) (omega (arith, long, lt)) on;
    }

-- there is only one first byte over
pub over_once : (text rest other : List ℕ) → FirstOver text rest → FirstOver text other → other ≡ rest
over_once text rest other over again =
    let same : again.front ++ other ≡ over.front ++ rest = sym (over_parts text other again) ∙ over_parts text rest over in
    elim (told (nat_lt (length other) (length rest))) [
      | inl h ↦ absurd (over_behind text rest other again.front over (grind (arith, nat_tests)) (over_parts text other again) again.within)
      | inr h ↦ elim (told (nat_lt (length rest) (length other))) [
        | inl k ↦ absurd (over_behind text other rest over.front again (grind (arith, nat_tests)) (over_parts text rest over) over.within)
        | inr k ↦ (same_split again.front over.front other rest same (grind (arith, nat_tests))).1
      ]
    ]

-- ---- bytes that are cut behind a place

-- the first byte over stays so where the bytes are cut behind it
pub over_shorter : (text here behind : List ℕ) → 0 < length here → FirstOver (text ++ behind) (here ++ behind) → FirstOver text here
over_shorter text [] behind lt over = absurd (omega (arith, lt))
over_shorter text (c ∷ here) behind lt over =
    let first : over.first ≡ c = let e = over.is in cc in
    record {
      front = over.front;
      first = c;
      more = here;
      parts = append_cancel_right text (over.front ++ c ∷ here) behind
          (over_parts (text ++ behind) ((c ∷ here) ++ behind) over ∙ sym (append_assoc over.front (c ∷ here) behind));
      is = refl;
      within = over.within;
      over = subst (λ (b : ℕ). IsOver (counts_of (over.front ++ b ∷ []))) first over.over;
    }

pub longer_parts : (text front here behind : List ℕ) → text ≡ front ++ here → text ++ behind ≡ front ++ (here ++ behind)
longer_parts text front here behind e = ap (λ (u : List ℕ). u ++ behind) e ∙ append_assoc front here behind

-- a bad byte stays bad, whatever stands behind it
bad_longer : (text here behind : List ℕ) → 0 < length here → FirstBadValue text here → FirstBadValue (text ++ behind) (here ++ behind)
bad_longer text [] behind lt bad = absurd (omega (arith, lt))
bad_longer text (c ∷ here) behind lt bad = record {
  front = bad.front;
  parts = longer_parts text bad.front (c ∷ here) behind bad.parts;
  viable = bad.viable;
  dead = λ t tail e on.
      let first : t ≡ c = cc in
      bad.dead c here refl (subst (λ (b : ℕ). CanGoOn value_text IsSpelled (bad.front ++ b ∷ [])) first on);
}

-- a name that begins here ends in front of what stands behind
name_inside : (here behind name tail : List ℕ) → (behind ≡ []) ⊎ (32 ≤ length here) → IsName name → here ++ behind ≡ name ++ tail → length behind ≤ length tail
name_inside here behind name tail room fits e =
    let few = (name_size name fits).1 in
    let sizes = sym (length-append here behind) ∙ ap (λ (u : List ℕ). length u) e ∙ length-append name tail in
    elim room [ inl none ↦ omega (arith, ap (λ (u : List ℕ). length u) none) | inr many ↦ omega (arith, many, few, sizes) ]

pub record Inside (here behind name tail : List ℕ) : Type 0 where
  pub more : List ℕ
  pub parts : here ≡ name ++ more
  pub is : tail ≡ more ++ behind

pub inside_of : (here behind name tail : List ℕ) → length behind ≤ length tail → here ++ behind ≡ name ++ tail → Inside here behind name tail
inside_of here behind name tail short e =
    let on = goes_on name tail here behind (sym e) short in
    record {
      more = on.0;
      parts = on.1;
      is = append_cancel_left name tail (on.0 ++ behind) (sym e ∙ ap (λ (u : List ℕ). u ++ behind) on.1 ∙ append_assoc name on.0 behind);
    }

-- the longest name stays so, where more bytes stand here than a name has
longest_longer : (here name more behind : List ℕ) → (behind ≡ []) ⊎ (32 ≤ length here) → IsLongest own IsName here name more
    → IsLongest own IsName (here ++ behind) name (more ++ behind)
longest_longer here name more behind room l = record {
  parts = longer_parts here name more behind l.parts;
  fits = l.fits;
  longest = λ other tail fits e.
      let i = inside_of here behind other tail (name_inside here behind other tail room fits e) e in
      let le : length more ≤ length i.more = l.longest other i.more fits i.parts in
      subst (λ (u : List ℕ). length (more ++ behind) ≤ length u) (sym i.is) (omega (arith, le, length-append more behind, length-append i.more behind));
}

-- and so it is without what stands behind
pub low_shorter : (prev here behind : List ℕ) → (behind ≡ []) ⊎ (32 ≤ length here) → NameStandsLow prev (here ++ behind) → NameStandsLow prev here
low_shorter prev here behind room low =
    let l = low.longest in
    let i = inside_of here behind low.name low.more (name_inside here behind low.name low.more room l.fits l.parts) l.parts in
    record {
      name = low.name;
      more = i.more;
      longest = record {
        parts = i.parts;
        fits = l.fits;
        longest = λ other tail fits e.
            let le : length low.more ≤ length (tail ++ behind) = l.longest other (tail ++ behind) fits (longer_parts here other tail behind e) in
            omega (arith, le, length-append tail behind, length-append i.more behind, ap (λ (u : List ℕ). length u) i.is);
      };
      low = low.low;
    }

-- behind the same bytes a low name stands where the last name has one
pub low_there : (front here there : List ℕ) → ((prev : List ℕ) → NameStandsLow prev here → NameStandsLow prev there) → LowWithin front here
    → LowWithin front there
low_there front here there f w = record {
  opened = w.opened;
  are = w.are;
  es = w.es;
  last = w.last;
  other = w.other;
  may = w.may;
  is = w.is;
  low = f w.last.0 w.low;
}

-- a low name stays low
low_longer : (text here behind : List ℕ) → (behind ≡ []) ⊎ (32 ≤ length here) → FirstLowName text here → FirstLowName (text ++ behind) (here ++ behind)
low_longer text here behind room low = record {
  front = low.front;
  parts = longer_parts text low.front here behind low.parts;
  viable = low.viable;
  low = low_there low.front here (here ++ behind) (λ prev s. record {
    name = s.name;
    more = s.more ++ behind;
    longest = longest_longer here s.name s.more behind room s.longest;
    low = s.low;
  }) low.low;
}

-- ---- bad or low

-- a byte here with which no value can go on, or a low name
abbrev pub Faulty : List ℕ → List ℕ → Type 0
Faulty text here = FirstBadValue text here ⊎ FirstLowName text here

-- with what stands before it a value can begin
pub faulty_front : (text here : List ℕ) → Faulty text here → (front : List ℕ) × (text ≡ front ++ here) × CanGoOn value_text IsSpelled front
faulty_front text here (inl bad) = (bad.front, bad.parts, bad.viable)
faulty_front text here (inr low) = (low.front, low.parts, low.viable)

pub faulty_longer : (text here behind : List ℕ) → 0 < length here → (behind ≡ []) ⊎ (32 ≤ length here) → Faulty text here
    → Faulty (text ++ behind) (here ++ behind)
faulty_longer text here behind lt room (inl bad) = inl (bad_longer text here behind lt bad)
faulty_longer text here behind lt room (inr low) = inr (low_longer text here behind room low)
