-- The readers of names, characters, bytes and words, step by step.
use Rattle.df_value_text.proofs.Names.{◌≡◌, ℕ, zero, suc, ◌+◌, ◌-◌, ◌<◌, ◌≤◌, true, false, List, [], ◌∷◌, length, get_or, take, drop, Ok, refl, sym, ap, ◌∙◌, arith, drop_all, drop-drop, is_letter, is_name, is_name_byte, name_bytes, name_at, Bool, nat_lt, ◌++◌, inl, inr, told, nat_tests, Read, ◌>>=◌, with_front, onto, is_between, is_lead, trail_length, least_second, most_second, trail_at, wide_at, starts, length-append, text_at, text_found, is_hex, hex_byte, pairs_at, not, ◌&&◌, ◌||◌, cond, eqb, Err, append_assoc, add-one, nat_le, concat, drop-cons, and_parts, ltb-true, Stop, list_all, ok_is, err_is, not_both, is_plain, is_quoted, char_at, begins_char, chars_at, all_none, all_step, all_stop, each_several, all_at, length-drop, lt-ltb, plain_run}
use Rattle.df_value_text.proofs.Loops.{first_of, front_on}
use Rattle.df_value_text.proofs.NameLaws.{name_format}
use Rattle.df_value_text.proofs.BytesLaws.{pairs_each}
use Rattle.df_value_text.proofs.WordsLaws.{plain_begins, chars_each}

-- ---- names

pub none_left : (most : ℕ) (bytes : List ℕ) → most ≡ 0 → name_bytes most bytes ≡ 0
none_left most [] e = refl
none_left zero (c ∷ cs) e = refl
none_left (suc most) (c ∷ cs) e = absurd (omega (arith, e))

pub none_there : (most place : ℕ) (bytes : List ℕ) → length bytes ≤ place → name_bytes most (drop place bytes) ≡ 0
none_there most place bytes le = ap (name_bytes most) (drop_all place bytes le)

pub none_fits : (most place : ℕ) (bytes : List ℕ) → place < length bytes → is_name_byte (get_or bytes place 0) ≡ false → name_bytes most (drop place bytes) ≡ 0
none_fits most place bytes lt h = ap (name_bytes most) (first_of bytes place lt) ∙ by most (get_or bytes place 0) (drop (place + 1) bytes) h
  where
    by : (most c : ℕ) (cs : List ℕ) → is_name_byte c ≡ false → name_bytes most (c ∷ cs) ≡ 0
    by zero c cs h = refl
    by (suc most) c cs h = rw h refl

-- a letter and the bytes counted behind it are what is read
pub name_read : (bytes : List ℕ) (at end : ℕ) → at < length bytes → is_letter (get_or bytes at 0) ≡ true
    → end ≡ (at + 1) + name_bytes 31 (drop (at + 1) bytes) → name_at (drop at bytes) ≡ Ok (take (end - at) (drop at bytes), drop end bytes)
name_read bytes at end lt letter is =
    let k : ℕ = name_bytes 31 (drop (at + 1) bytes) in
    let count : end - at ≡ suc k = omega (arith, is) in
    let behind : drop k (drop (at + 1) bytes) ≡ drop end bytes = drop-drop k (at + 1) bytes ∙ ap (λ (n : ℕ). drop n bytes) (sym is) in
    let first : drop at bytes ≡ get_or bytes at 0 ∷ drop (at + 1) bytes = first_of bytes at lt in
    let read : name_at (get_or bytes at 0 ∷ drop (at + 1) bytes) ≡ Ok (get_or bytes at 0 ∷ take k (drop (at + 1) bytes), drop k (drop (at + 1) bytes)) = rw
    letter refl in
    let front : get_or bytes at 0 ∷ take k (drop (at + 1) bytes) ≡ take (end - at) (drop at bytes) = sym
    (ap (λ (n : ℕ). take n (drop at bytes)) count ∙ ap (take (suc k)) first) in
    ap name_at first ∙ read ∙ ap (λ (u : List ℕ). Ok (u, drop k (drop (at + 1) bytes))) front
    ∙ ap (λ (u : List ℕ). Ok (take (end - at) (drop at bytes), u)) behind

pub name_is : (bytes : List ℕ) (at end : ℕ) → at < length bytes → is_letter (get_or bytes at 0) ≡ true → end ≡ (at + 1) + name_bytes 31 (drop (at + 1) bytes)
    → is_name (take (end - at) (drop at bytes)) ≡ true
name_is bytes at end lt letter
    is = ((name_format (λ front rest. ⊥)).found (drop at bytes) (take (end - at) (drop at bytes)) (drop end bytes) (name_read bytes at end lt letter is)).fits

-- ---- characters

-- a byte that passes the test stands there
started : (test : ℕ → Bool) (bytes : List ℕ) (place : ℕ) → starts test (drop place bytes) ≡ true
    → (drop place bytes ≡ get_or bytes place 0 ∷ drop (place + 1) bytes) × (test (get_or bytes place 0) ≡ true)
started test bytes place h =
    elim (told (nat_lt place (length bytes))) [
      | inl e ↦ let first = first_of bytes place (grind (arith, nat_tests)) in (first, sym (ap (starts test) first) ∙ h)
      | inr e ↦
          let none : drop place bytes ≡ [] = drop_all place bytes (grind (arith, nat_tests)) in
          absurd (let no : false ≡ true = sym (ap (starts test) none) ∙ h in cc)
    ]

trail_step : (count least most b : ℕ) (cs : List ℕ) → is_between least most b ≡ true
    → trail_at (suc count) least most (b ∷ cs) ≡ (trail_at count 128 191 cs >>= onto b)
trail_step count least most b cs h = rw h refl

-- a further byte is read
pub trail_on : (bytes old more : List ℕ) (at count least most : ℕ) → 0 < count → starts (is_between least most) (drop at bytes) ≡ true
    → more ≡ old ++ get_or bytes at 0 ∷ []
    → with_front old (trail_at count least most (drop at bytes)) ≡ with_front more (trail_at (count - 1) 128 191 (drop (at + 1) bytes))
trail_on bytes old more at count least most some h is =
    let s = started (is_between least most) bytes at h in
    let n : count ≡ suc (count - 1) = omega (arith, some) in
    let step = ap (trail_at count least most) s.0 ∙ ap (λ (k : ℕ). trail_at k least most (get_or bytes at 0 ∷ drop (at + 1) bytes)) n
    ∙ trail_step (count - 1) least most (get_or bytes at 0) (drop (at + 1) bytes) s.1 in
    sym (front_on old more (get_or bytes at 0) (trail_at count least most (drop at bytes)) (trail_at (count - 1) 128 191 (drop (at + 1) bytes)) _ step is refl)

wide_step : (lead : ℕ) (cs : List ℕ) → is_lead lead ≡ true
    → wide_at (lead ∷ cs) ≡ (trail_at (trail_length lead) (least_second lead) (most_second lead) cs >>= onto lead)
wide_step lead cs h = rw h refl

-- a first byte is read
pub wide_on : (bytes old more : List ℕ) (at count least most : ℕ) → at < length bytes → is_lead (get_or bytes at 0) ≡ true
    → more ≡ old ++ get_or bytes at 0 ∷ [] → count ≡ trail_length (get_or bytes at 0) → least ≡ least_second (get_or bytes at 0)
    → most ≡ most_second (get_or bytes at 0) → with_front old (wide_at (drop at bytes)) ≡ with_front more (trail_at count least most (drop (at + 1) bytes))
wide_on bytes old more at count least most lt h is counted from to =
    let lead : ℕ = get_or bytes at 0 in
    let left : Read ℕ (List ℕ) = trail_at (trail_length lead) (least_second lead) (most_second lead) (drop (at + 1) bytes) in
    let whole : with_front more left ≡ with_front old (wide_at (drop at bytes)) = front_on old more lead (wide_at (drop at bytes)) left _
    (ap wide_at (first_of bytes at lt) ∙ wide_step lead (drop (at + 1) bytes) h) is refl in
    rw (counted, from, to) (sym whole)

-- ---- bytes

two_of : (bytes : List ℕ) (place : ℕ) → place + 1 < length bytes → drop place bytes ≡ get_or bytes place 0 ∷ get_or bytes (place + 1) 0 ∷ drop (place + 2) bytes
two_of bytes place lt =
    let same : (place + 1) + 1 ≡ place + 2 = omega arith in
    first_of bytes place (omega (arith, lt)) ∙ ap (λ (u : List ℕ). get_or bytes place 0 ∷ u)
    (first_of bytes (place + 1) lt ∙ ap (λ (n : ℕ). get_or bytes (place + 1) 0 ∷ drop n bytes) same)

pair_first : (a b : ℕ) (cs : List ℕ) → is_hex a ≡ true → is_hex b ≡ true → pairs_at (a ∷ b ∷ cs) ≡ (pairs_at cs >>= onto (hex_byte a b))
pair_first a b cs ha hb = all_step (each_several pairs_each) (a ∷ b ∷ cs) (hex_byte a b) cs ha (rw (ha, hb) refl)

-- a pair is read
pub pair_read : (bytes : List ℕ) (place : ℕ) (out more : List ℕ) (total : Read ℕ (List ℕ)) → place + 1 < length bytes
    → is_hex (get_or bytes place 0) ≡ true → is_hex (get_or bytes (place + 1) 0) ≡ true
    → more ≡ out ++ hex_byte (get_or bytes place 0) (get_or bytes (place + 1) 0) ∷ []
    → with_front out (pairs_at (drop place bytes)) ≡ total → with_front more (pairs_at (drop (place + 2) bytes)) ≡ total
pair_read bytes place out more total lt ha hb is so_far =
    let step = ap pairs_at (two_of bytes place lt) ∙ pair_first (get_or bytes place 0) (get_or bytes (place + 1) 0) (drop (place + 2) bytes) ha hb in
    front_on out more (hex_byte (get_or bytes place 0) (get_or bytes (place + 1) 0)) (pairs_at (drop place bytes)) (pairs_at (drop (place + 2) bytes))
    total step is so_far

-- no digit stands there
pub no_pair : (text : List ℕ) → starts is_hex text ≡ false → pairs_at text ≡ Ok ([], text)
no_pair text h = all_none (each_several pairs_each) text h

-- fixed bytes end no earlier than they begin
pub text_onward : (bytes ws x : List ℕ) (at end : ℕ) → at ≤ length bytes → end ≤ length bytes → text_at ws (drop at bytes) ≡ Ok (x, drop end bytes) → at ≤ end
text_onward bytes ws x at end within le e =
    let parts = ap length (text_found ws (drop at bytes) x (drop end bytes) e).1 ∙ length-append ws (drop end bytes) in
    omega (arith, within, le, parts, length-drop at bytes, length-drop end bytes)

-- ---- words

abbrev joined : Read ℕ (List (List ℕ)) → Read ℕ (List ℕ)
joined r = r >>= λ (xs : List (List ℕ) × List ℕ). Ok (concat xs.0, xs.1)

joined_front : (x : List ℕ) (r : Read ℕ (List (List ℕ))) → joined (r >>= onto x) ≡ with_front x (joined r)
joined_front x (Ok xs) = refl
joined_front x (Err s) = refl

-- a character, and those behind it
chars_step : (bytes x rest : List ℕ) → starts begins_char bytes ≡ true → char_at bytes ≡ Ok (x, rest) → chars_at bytes ≡ with_front x (chars_at rest)
chars_step bytes x rest h e =
    ap joined (all_step (each_several chars_each) bytes x rest h e) ∙ joined_front x (all_at (starts begins_char) char_at rest)

chars_stop : (bytes : List ℕ) (stop : Stop ℕ) → starts begins_char bytes ≡ true → char_at bytes ≡ Err stop → chars_at bytes ≡ Err stop
chars_stop bytes stop h e = ap joined (all_stop (each_several chars_each) bytes stop h e)

pub chars_none : (bytes : List ℕ) → starts begins_char bytes ≡ false → chars_at bytes ≡ Ok ([], bytes)
chars_none bytes h = ap joined (all_none (each_several chars_each) bytes h)

-- ---- behind what was read before

fronts : (front x : List ℕ) (r : Read ℕ (List ℕ)) → with_front front (with_front x r) ≡ with_front (front ++ x) r
fronts front x (Ok y) = ap (λ (u : List ℕ). Ok (u, y.1)) (sym (append_assoc front x y.0))
fronts front x (Err s) = refl

front_read : (front more rest : List ℕ) (r : Read ℕ (List ℕ)) → with_front front r ≡ Ok (more, rest) → (x : List ℕ) × (r ≡ Ok (x, rest)) × (front ++ x ≡ more)
front_read front more rest (Ok x) e =
    let both = ok_is (front ++ x.0, x.1) (more, rest) e in
    (x.0, ap (λ (u : List ℕ). Ok (x.0, u)) (ap (λ (q : List ℕ × List ℕ). q.1) both), ap (λ (q : List ℕ × List ℕ). q.0) both)
front_read front more rest (Err s) e = not_both (more, rest) s (sym e)

front_stopped : (front : List ℕ) (stop : Stop ℕ) (r : Read ℕ (List ℕ)) → with_front front r ≡ Err stop → r ≡ Err stop
front_stopped front stop (Ok x) e = not_both (front ++ x.0, x.1) stop e
front_stopped front stop (Err s) e = ap (λ s. Err s) (err_is s stop e)

-- a character is read
pub char_read : (bytes front more rest : List ℕ) (total : Read ℕ (List ℕ)) → starts begins_char bytes ≡ true
    → with_front front (char_at bytes) ≡ Ok (more, rest) → with_front front (chars_at bytes) ≡ total → with_front more (chars_at rest) ≡ total
char_read bytes front more rest total h e so_far =
    let f = front_read front more rest (char_at bytes) e in
    ap (λ (u : List ℕ). with_front u (chars_at rest)) (sym f.2) ∙ sym (fronts front f.0 (chars_at rest))
    ∙ ap (with_front front) (sym (chars_step bytes f.0 rest h f.1)) ∙ so_far

-- a character is broken
pub char_broken : (bytes front : List ℕ) (stop : Stop ℕ) (total : Read ℕ (List ℕ)) → starts begins_char bytes ≡ true
    → with_front front (chars_at bytes) ≡ total → with_front front (char_at bytes) ≡ Err stop → total ≡ Err stop
char_broken bytes front stop total h so_far e = sym so_far ∙ ap (with_front front) (chars_stop bytes stop h (front_stopped front stop (char_at bytes) e))

-- ---- bytes that stand for themselves

unquoted : (a b : Bool) → not (a || b) ≡ true → b ≡ false
unquoted true b h = absurd cc
unquoted false true h = absurd cc
unquoted false false h = refl

plain_char : (c : ℕ) (cs : List ℕ) → is_plain c ≡ true → char_at (c ∷ cs) ≡ Ok (c ∷ [], cs)
plain_char c cs h =
    let low = and_parts (nat_le 32 c) (nat_lt c 127 && not (is_quoted c)) h in
    let both = and_parts (nat_lt c 127) (not (is_quoted c)) low.1 in
    let small : nat_lt c 128 ≡ true = lt-ltb c 128 (omega (arith, ltb-true c 127 both.0)) in
    let other : eqb c 92 ≡ false = unquoted (eqb c 34) (eqb c 92) both.1 in
    rw (h, small, other) refl

none_front : (r : Read ℕ (List ℕ)) → with_front [] r ≡ r
none_front (Ok x) = refl
none_front (Err s) = refl

-- the bytes in front that stand for themselves are read as they are
chars_run : (bytes : List ℕ) → chars_at bytes ≡ with_front (take (plain_run bytes) bytes) (chars_at (drop (plain_run bytes) bytes))
chars_run [] = refl
chars_run (c ∷ cs) = by (is_plain c) refl (chars_run cs)
  where
    by : (t : Bool) → is_plain c ≡ t → chars_at cs ≡ with_front (take (plain_run cs) cs) (chars_at (drop (plain_run cs) cs))
        → chars_at (c ∷ cs) ≡ with_front (take (cond t (suc (plain_run cs)) 0) (c ∷ cs)) (chars_at (drop (cond t (suc (plain_run cs)) 0) (c ∷ cs)))
    by true e rest = chars_step (c ∷ cs) (c ∷ []) cs (plain_begins c e) (plain_char c cs e) ∙ ap (with_front (c ∷ [])) rest
        ∙ fronts (c ∷ []) (take (plain_run cs) cs) (chars_at (drop (plain_run cs) cs))
    by false e rest = sym (none_front (chars_at (c ∷ cs)))

-- once these are taken over, what is left is read as all was to be
pub run_read : (bytes : List ℕ) (at end : ℕ) (front more : List ℕ) → end ≡ at + plain_run (drop at bytes) → more ≡ front ++ take (end - at) (drop at bytes)
    → with_front more (chars_at (drop end bytes)) ≡ with_front front (chars_at (drop at bytes))
run_read bytes at end front more is e =
    let k : ℕ = plain_run (drop at bytes) in
    let count : end - at ≡ k = omega (arith, is) in
    let behind : drop k (drop at bytes) ≡ drop end bytes = drop-drop k at bytes ∙ ap (λ (n : ℕ). drop n bytes) (sym is) in
    let taken : more ≡ front ++ take k (drop at bytes) = e ∙ ap (λ (n : ℕ). front ++ take n (drop at bytes)) count in
    ap (λ (u : List ℕ). with_front u (chars_at (drop end bytes))) taken ∙ sym (fronts front (take k (drop at bytes)) (chars_at (drop end bytes)))
    ∙ ap (λ (u : List ℕ). with_front front (with_front (take k (drop at bytes)) (chars_at u))) (sym behind)
    ∙ ap (with_front front) (sym (chars_run (drop at bytes)))

pub run_ended : (bytes : List ℕ) (place : ℕ) → length bytes ≤ place → plain_run (drop place bytes) ≡ 0
run_ended bytes place le = ap plain_run (drop_all place bytes le)

pub run_broken : (bytes : List ℕ) (place : ℕ) → place < length bytes → is_plain (get_or bytes place 0) ≡ false → plain_run (drop place bytes) ≡ 0
run_broken bytes place lt h = ap plain_run (drop-cons bytes place 0 lt) ∙ rw h refl

pub run_on : (bytes : List ℕ) (place : ℕ) → place < length bytes → is_plain (get_or bytes place 0) ≡ true
    → plain_run (drop place bytes) ≡ suc (plain_run (drop (place + 1) bytes))
run_on bytes place lt h = rw (add-one) (ap plain_run (drop-cons bytes place 0 lt) ∙ rw h refl)

-- so many bytes in front stand for themselves
runs_on : (k : ℕ) (bytes : List ℕ) → k ≤ length bytes → list_all is_plain (take k bytes) ≡ true → plain_run bytes ≡ k + plain_run (drop k bytes)
runs_on zero bytes le h = omega arith
runs_on (suc k) [] le h = absurd (omega (arith, le))
runs_on (suc k) (c ∷ cs) le h =
    let both = and_parts (is_plain c) (list_all is_plain (take k cs)) h in
    let rest : plain_run cs ≡ k + plain_run (drop k cs) = runs_on k cs (omega (arith, le)) both.1 in
    rw (both.0) (omega (arith, rest))

pub group_on : (bytes : List ℕ) (place stop : ℕ) → place ≤ stop → stop ≤ length bytes → list_all is_plain (take (stop - place) (drop place bytes)) ≡ true
    → plain_run (drop place bytes) ≡ (stop - place) + plain_run (drop stop bytes)
group_on bytes place stop onward within h =
    let k : ℕ = stop - place in
    let is : place + k ≡ stop = omega (arith, onward) in
    runs_on k (drop place bytes) (omega (arith, onward, within, length-drop place bytes)) h
    ∙ ap (λ (u : List ℕ). k + plain_run u) (drop-drop k place bytes ∙ ap (λ (n : ℕ). drop n bytes) is)
