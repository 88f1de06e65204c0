-- Reading up to the first byte by which a count of freezing is passed, and what it says of all bytes.
use Rattle.df_value_text.proofs.Names.{value_at, err_is, ◌≡◌, ℕ, ◌+◌, ◌-◌, ◌<◌, ◌≤◌, List, [], ◌∷◌, ◌++◌, length, length-append, take, drop, Ok, Err, refl, sym, ap, subst, ◌∙◌, append_assoc, arith, ◌⊎◌, inl, inr, true, nat_le, nat_lt, nat_tests, append-nil, drop_all, length-take-le, CanGoOn, Stands, Bad, Low, told, IsWithinLimits, Plain, Fails, IsFound, refusal, FirstOver, NeverOver, IsSpelled, IsValue, NameStandsLow, LowInValue, value_text, FirstBadValue, FirstTooLarge, IsWithinBefore, Fault, min, IsTooLargeAt, NamesTooLarge, NamesValueFault, NoLowBefore, TellsSyntaxAt, up_to, TextRefused}
use Rattle.std.proofs.lemmas.List.{length-drop}
use Rattle.df_value_text.proofs.CountingEnds.{value_within as counted_within, front_whole, over_inside, value_over}
use Rattle.df_value_text.specs.code.Answer.{TellsValue}
use Rattle.df_value_text.proofs.Answering.{no_refusal, syntax_told, told_low}
use Rattle.df_value_text.proofs.Loops.{between_places}
use Rattle.df_value_text.proofs.LowLaws.{low_read}
use Rattle.df_value_text.proofs.ValueAnswers.{stands_once, value_read, no_low_name, first_bad_value, first_low_value}
use Rattle.df_value_text.proofs.ValueLaws.{value_format}
use Rattle.df_value_text.proofs.LimitFronts.{low_there, viable_before, with_over, over_length, over_parts, within_in_front, over_behind, first_too_large, over_once, Faulty, faulty_front, faulty_longer, over_shorter, longer_parts, inside_of, low_shorter}
use Rattle.df_value_text.specs.declared.refused.Fault.TheVariants as fault
use Rattle.df_value_text.specs.declared.refused.TextRefused.TheVariants as refused

-- ---- a value that is over the limits

-- the first byte over isn't before the place
pub over_from : (text : List ℕ) (at over : ℕ) → at ≤ length text → over < length text → FirstOver (drop at text) (drop over text) → at ≤ over
over_from text at over le lt first =
    let whole = ap (λ (u : List ℕ). length u) (over_parts (drop at text) (drop over text) first) ∙ length-append first.front (drop over text) in
    omega (arith, le, lt, whole, length-drop at text, length-drop over text)

-- the cut is behind the first byte over, and at the end or a name behind it
pub record IsCut (text : List ℕ) (at over end : ℕ) : Type 0 where
  pub start : at ≤ over
  pub before : over < end
  pub within : end ≤ length text
  pub room : (end ≡ length text) ⊎ (over + 32 ≤ end)
  pub first : FirstOver (drop at text) (drop over text)

pub is_cut : (text : List ℕ) (at over end : ℕ) → at ≤ length text → over < length text → FirstOver (drop at text) (drop over text)
    → end ≡ min (length text) (over + 32) → IsCut text at over end
is_cut text at over end le lt first e = record {
  start = over_from text at over le lt first;
  before = omega (arith, e, lt);
  within = omega (arith, e);
  room = elim (told (nat_le (length text) (over + 32))) [ inl h ↦ inl (grind (arith, nat_tests)) | inr h ↦ inr (grind (arith, nat_tests)) ];
  first = first;
}

module _ {text : List ℕ} {at over end : ℕ} (c : IsCut text at over end) where
  abbrev cut : List ℕ
  cut = take end text

  cut_length : length cut ≡ end
  cut_length = length-take-le end text c.within

  -- behind a place in the cut stands what stands behind it in the whole
  whole : (n : ℕ) → n ≤ end → drop n cut ++ drop end text ≡ drop n text
  whole n le = front_whole text end n c.within le

  whole_parts : (front : List ℕ) (n : ℕ) → n ≤ end → drop at cut ≡ front ++ drop n cut → drop at text ≡ front ++ drop n text
  whole_parts front n le e =
      sym (whole at (omega (arith, c.start, c.before))) ∙ longer_parts (drop at cut) front (drop n cut) (drop end text) e
      ∙ ap (λ (u : List ℕ). front ++ u) (whole n le)

  -- the cut goes on in front of its end
  cut_goes : (n : ℕ) → n ≤ over → 0 < length (drop n cut)
  cut_goes n le = omega (arith, le, c.before, length-drop n cut, cut_length)

  -- a value can go on with the byte over, where one does so behind it
  large_by : (front : List ℕ) (n : ℕ) → n ≤ end → over < n → drop at cut ≡ front ++ drop n cut → CanGoOn value_text IsSpelled front
      → NamesTooLarge text at (refused.TooLarge over)
  large_by front n le lt e on =
      let further : length (drop n text) < length (drop over text) = omega (arith, le, lt, c.within, c.before, length-drop n text, length-drop over text) in
      (omega (arith, c.before, c.within), first_too_large (drop at text) (drop over text) (drop n text) front c.first further (whole_parts front n le e) on)

  -- where a name begins in front of the byte over, all of it stands in the cut
  name_room : (n : ℕ) → n ≤ over → (drop end text ≡ []) ⊎ (32 ≤ length (drop n cut))
  name_room n le = elim c.room [ inl h ↦ inl (drop_all end text (omega (arith, h))) | inr h ↦ inr (omega (arith, h, le, length-drop n cut, cut_length)) ]

  -- what is bad or low in front of the byte over is so in the whole
  faulty_whole : (n : ℕ) → n ≤ over → Faulty (drop at cut) (drop n cut) → Faulty (drop at text) (drop n text)
  faulty_whole n le faulty =
      subst (λ (u : List ℕ). Faulty u (drop n text)) (whole at (omega (arith, c.start, c.before)))
      (subst (λ (u : List ℕ). Faulty (drop at cut ++ drop end text) u) (whole n (omega (arith, le, c.before)))
      (faulty_longer (drop at cut) (drop n cut) (drop end text) (cut_goes n le) (name_room n le) faulty))

  -- a value that stands in the cut
  pub value_cut : (p : Plain) (stop : ℕ) → (stop ≤ length cut) × (value_at (drop at cut) ≡ Ok (p, drop stop cut))
      → NamesTooLarge text at (refused.TooLarge over)
  value_cut p stop read =
      let f = value_format.found (drop at cut) p (drop stop cut) read.1 in
      let first : FirstOver (drop at cut) (drop over cut) =
      over_shorter (drop at cut) (drop over cut) (drop end text) (cut_goes over (omega arith))
      (subst (λ (u : List ℕ). FirstOver u (drop over cut ++ drop end text)) (sym (whole at (omega (arith, c.start, c.before))))
      (subst (λ (u : List ℕ). FirstOver (drop at text) u) (sym (whole over (omega (arith, c.before)))) c.first)) in
      let inside = over_inside p f.fits (drop stop cut) (drop over cut) (subst (λ (u : List ℕ). FirstOver u (drop over cut)) f.parts first) in
      large_by (value_text p) stop (omega (arith, read.0, cut_length)) (omega (arith, inside, read.0, length-drop stop cut, length-drop over cut)) f.parts
      (record { some = p; fits = f.fits; more = []; is = sym (append-nil (value_text p)) })

  -- what is bad or low in the cut is told where it isn't behind the byte over
  told_cut : (place : ℕ) → place ≤ length cut → Faulty (drop at cut) (drop place cut)
      → NamesValueFault text at (up_to over (fault.Bad place)) × NamesTooLarge text at (up_to over (fault.Bad place))
  told_cut place below faulty =
      elim (told (nat_le place over)) [
        | inl k ↦
            let le : place ≤ over = grind (arith, nat_tests) in
            let front : length (drop over text) ≤ length (drop place text) = omega (arith, le, c.within, length-drop place text, length-drop over text) in
            let before = within_in_front (drop at text) (drop over text) (drop place text) c.first front in
            rw k ((omega (arith, le, c.before, c.within), faulty_whole place le faulty, before), tt)
        | inr k ↦
            let f = faulty_front (drop at cut) (drop place cut) faulty in
            rw k (tt, large_by f.0 place (omega (arith, below, cut_length)) (grind (arith, nat_tests)) f.1 f.2)
      ]

  pub fault_cut : (e : Fault) → Fails cut e (value_at (drop at cut))
      → NamesValueFault text at (up_to over e) × NamesTooLarge text at (up_to over e)
  fault_cut fault.NoMemory h = (tt, tt)
  fault_cut (fault.Bad place) h = told_cut place h.0 (inl (first_bad_value (drop at cut) (drop place cut) h.1))
  fault_cut (fault.Low place) h = told_cut place h.0 (inr (first_low_value (drop at cut) (drop place cut) h.1))

  -- a low name in front of which no count is passed is one in the cut
  record LowInCut (rest : List ℕ) : Type 0 where
    pub more : List ℕ
    pub is : rest ≡ more ++ drop end text
    pub long : length (drop over text) ≤ length rest
    pub low : LowInValue (drop at cut) more

  low_in_cut : (rest : List ℕ) → LowInValue (drop at text) rest → IsWithinBefore (drop at text) rest → LowInCut rest
  low_in_cut rest low within =
      elim (told (nat_lt (length rest) (length (drop over text)))) [
        | inl h ↦ absurd (over_behind (drop at text) (drop over text) rest low.0 c.first (grind (arith, nat_tests)) low.1 (within low.0 low.1))
        | inr h ↦
            let long : length (drop over text) ≤ length rest = grind (arith, nat_tests) in
            let short : length (drop end text) ≤ length rest = omega (arith, long, c.before, length-drop end text, length-drop over text) in
            let i = inside_of (drop at cut) (drop end text) low.0 rest short (whole at (omega (arith, c.start, c.before)) ∙ low.1) in
            let size : length rest ≡ length i.more + length (drop end text) = ap (λ (u : List ℕ). length u) i.is ∙ length-append i.more (drop end text) in
            let room : (drop end text ≡ []) ⊎ (32 ≤ length i.more) = elim c.room [
              | inl k ↦ inl (drop_all end text (omega (arith, k)))
              | inr k ↦ inr (omega (arith, k, size, long, c.before, c.within, length-drop end text, length-drop over text))
            ] in
            let inside = low_there low.0 rest i.more (λ prev s. low_shorter prev i.more (drop end text) room (subst (NameStandsLow prev) i.is s)) low.2 in
            record { more = i.more; is = i.is; long = long; low = (low.0, i.parts, inside) }
      ]

  -- where such a name stands, a fault in the cut is told as its place
  pub order_cut : (e : Fault) → Fails cut e (value_at (drop at cut)) → (rest : List ℕ) → LowInValue (drop at text) rest
      → IsWithinBefore (drop at text) rest → TellsSyntaxAt text rest (up_to over e)
  order_cut fault.NoMemory h rest low within = tt
  order_cut (fault.Bad place) h rest low within =
      let l = low_in_cut rest low within in
      absurd (let no = err_is (Bad (drop place cut)) (Low l.more) (sym h.1 ∙ low_read (drop at cut) l.more l.low) in cc)
  order_cut (fault.Low place) h rest low within =
      let below = h.0 in
      let l = low_in_cut rest low within in
      let stop : Low (drop place cut) ≡ Low l.more = err_is (Low (drop place cut)) (Low l.more) (sym h.1 ∙ low_read (drop at cut) l.more l.low) in
      let same : drop place cut ≡ l.more = cc in
      let parts : drop place cut ++ drop end text ≡ rest = ap (λ (u : List ℕ). u ++ drop end text) same ∙ sym l.is in
      let sizes : length (drop place cut) + length (drop end text) ≡ length rest = sym (length-append (drop place cut) (drop end text))
      ∙ ap (λ (u : List ℕ). length u) parts in
      let ends = length-drop end text in
      let le : place ≤ over = omega (arith, below, sizes, ends, l.long, c.before, c.within, cut_length, length-drop place cut, length-drop over text) in
      let first : nat_le place over ≡ true = grind (arith, nat_tests) in
      rw first (sym (whole place (omega (arith, le, c.before))) ∙ parts)

  -- a value isn't read where one stands
  pub no_low_cut : (p : Plain) (stop : ℕ) → value_at (drop at cut) ≡ Ok (p, drop stop cut) → (rest : List ℕ) → LowInValue (drop at text) rest
      → IsWithinBefore (drop at text) rest → ⊥
  no_low_cut p stop e rest low within = let l = low_in_cut rest low within in no_low_name (drop at cut) (p, drop stop cut) e l.more l.low

-- ---- all answers

-- where no count is passed, the value that is read may be frozen
pub read_within : (text : List ℕ) (at end : ℕ) (p : Plain) → NeverOver (drop at text) → value_at (drop at text) ≡ Ok (p, drop end text)
    → IsWithinLimits p
read_within text at end p never e =
    let f = value_format.found (drop at text) p (drop end text) e in
    counted_within p f.fits (drop end text) (subst NeverOver f.parts never)

-- where none is passed in its spelling, too
pub small_within : (text : List ℕ) (at end : ℕ) (p : Plain) → at ≤ length text
    → (end ≤ length text) × (value_at (drop at text) ≡ Ok (p, drop end text)) → NeverOver (take (end - at) (drop at text)) → IsWithinLimits p
small_within text at end p start h never =
    let f = value_format.found (drop at text) p (drop end text) h.1 in
    let spelled = (between_places text (value_text p) at end start h.0 f.parts).1 in
    counted_within p f.fits [] (subst NeverOver (spelled ∙ sym (append-nil (value_text p))) never)

-- where no count is passed, a fault is told as it stands
pub fault_within : (text : List ℕ) (at : ℕ) (e : Fault) → NeverOver (drop at text) → Fails text e (value_at (drop at text))
    → NamesValueFault text at (refusal e) × NamesTooLarge text at (refusal e)
fault_within text at fault.NoMemory never h = (tt, tt)
fault_within text at (fault.Bad place) never h =
    ((h.0, inl (first_bad_value (drop at text) (drop place text) h.1), λ front e. never front (drop place text) e), tt)
fault_within text at (fault.Low place) never h =
    ((h.0, inr (first_low_value (drop at text) (drop place text) h.1), λ front e. never front (drop place text) e), tt)

-- a byte over stands in no value that may be frozen
pub no_value : (text rest : List ℕ) → FirstOver text rest → (p : Plain) (behind : List ℕ) → Stands value_text IsValue text p behind → ⊥
no_value text rest over p behind s = value_over p s.fits.0 behind rest (subst (λ (u : List ℕ). FirstOver u rest) s.parts over) s.fits.1

-- what is bad in front of a place with which a value can go on
no_bad : (text rest here : List ℕ) → FirstTooLarge text rest → length rest ≤ length here → FirstBadValue text here → ⊥
no_bad text rest [] large le bad = let long = over_length text rest large.over in absurd (omega (arith, long, le))
no_bad text rest (t ∷ tail) large le bad =
    let over = large.over in
    let long = over_length text rest over in
    let parts : (bad.front ++ t ∷ []) ++ tail ≡ (over.front ++ over.first ∷ []) ++ over.more = append_assoc bad.front (t ∷ []) tail ∙ sym bad.parts
    ∙ sym (with_over text rest over) in
    bad.dead t tail refl (viable_before (bad.front ++ t ∷ []) tail (over.front ++ over.first ∷ []) over.more parts (omega (arith, long, le)) large.viable)

-- a Syntax isn't told where a count is passed
no_syntax : (text rest here : List ℕ) → FirstTooLarge text rest → NoLowBefore text rest → Faulty text here → IsWithinBefore text here → ⊥
no_syntax text rest here large high faulty within =
    elim (told (nat_lt (length here) (length rest))) [
      | inl h ↦
          let f = faulty_front text here faulty in
          over_behind text rest here f.0 large.over (grind (arith, nat_tests)) f.1 (within f.0 f.1)
      | inr h ↦ elim faulty [
        | inl bad ↦ no_bad text rest here large (grind (arith, nat_tests)) bad
        | inr low ↦ let lt = high here low in absurd (grind (arith, nat_tests))
      ]
    ]

-- a fault is told as TooLarge where one is to be told
pub large_told : (X : Type 0) (text : List ℕ) (at : ℕ) (e : TextRefused) → NamesValueFault text at e → NamesTooLarge text at e → (rest : List ℕ)
    → FirstTooLarge (drop at text) rest → NoLowBefore (drop at text) rest → IsTooLargeAt {X = X} text rest (Err e)
large_told X text at refused.NoMemory s t rest large high = tt
large_told X text at (refused.Syntax place) s t rest large high = no_syntax (drop at text) rest (drop place text) large high s.1 s.2
large_told X text at (refused.TooLarge place) s t rest large high = over_once (drop at text) rest (drop place text) large.over t.1.over

-- ---- what is told of a value

-- a value that is found
pub tells_found : (text : List ℕ) (at : ℕ) (x : Plain × ℕ) → IsFound value_text IsValue text at x → TellsValue text at (Ok x)
tells_found text at x found = record {
  found = found;
  only = stands_once (drop at text) x.0 (drop x.1 text) found.1;
  syntax = tt;
  order = λ rest low within. no_low_name (drop at text) (x.0, drop x.1 text) (value_read (drop at text) x.0 (drop x.1 text) found.1) rest low;
  too_large = tt;
  over = λ rest large high. no_value (drop at text) rest large.over x.0 (drop x.1 text) found.1;
}

-- a refusal that is as it says is TooLarge where it is to be
tells_refusal : (text : List ℕ) (at : ℕ) (e : TextRefused)
    → ((value : Plain) (rest : List ℕ) → Stands value_text IsValue (drop at text) value rest → e ≡ refused.NoMemory)
    → NamesValueFault text at e × NamesTooLarge text at e
    → ((rest : List ℕ) → LowInValue (drop at text) rest → IsWithinBefore (drop at text) rest → TellsSyntaxAt text rest e) → TellsValue text at (Err e)
tells_refusal text at e only names order = record {
  found = tt;
  only = only;
  syntax = names.0;
  order = λ rest low within. syntax_told Plain text rest e (order rest low within);
  too_large = names.1;
  over = large_told Plain text at e names.0 names.1;
}

-- a fault where no count is passed
pub tells_within : (text : List ℕ) (at : ℕ) (e : Fault) → NeverOver (drop at text) → Fails text e (value_at (drop at text))
    → TellsValue text at (Err (refusal e))
tells_within text at e never h =
    tells_refusal text at (refusal e) (λ y rest s. no_refusal text e (value_at (drop at text)) (y, rest) h (value_read (drop at text) y rest s))
    (fault_within text at e never h) (λ rest low within. told_low text e (value_at (drop at text)) rest h (low_read (drop at text) rest low))

module _ {text : List ℕ} {at over end : ℕ} (c : IsCut text at over end) where
  only_cut : (e : TextRefused) (value : Plain) (rest : List ℕ) → Stands value_text IsValue (drop at text) value rest → e ≡ refused.NoMemory
  only_cut e value rest stands = absurd (no_value (drop at text) (drop over text) c.first value rest stands)

  -- a fault, and a value, in the cut
  pub tells_fault : (e : Fault) → Fails (cut c) e (value_at (drop at (cut c))) → TellsValue text at (Err (up_to over e))
  tells_fault e h = tells_refusal text at (up_to over e) (only_cut (up_to over e)) (fault_cut c e h) (order_cut c e h)

  pub tells_value : (p : Plain) (stop : ℕ) → (stop ≤ length (cut c)) × (value_at (drop at (cut c)) ≡ Ok (p, drop stop (cut c)))
      → TellsValue text at (Err (refused.TooLarge over))
  tells_value p stop h = tells_refusal text at (refused.TooLarge over) (only_cut (refused.TooLarge over)) (tt, value_cut c p stop h) (no_low_cut c p stop h.1)
