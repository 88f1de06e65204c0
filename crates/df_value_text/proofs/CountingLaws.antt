-- Walking over a value's spelling counts its nodes, its bytes and its depth.
use Rattle.df_value_text.proofs.Names.{◌≡◌, ℕ, ◌+◌, max, Bool, true, false, List, [], ◌∷◌, ◌++◌, length, refl, ap, subst, ◌∙◌, sym, append_assoc, arith, Place, Walk, begins, weight, next, nested, walk, walked, zero, suc, ◌/◌, ◌%◌, ◌^◌, ◌<◌, ◌≤◌, eqb, length-append, inl, inr, ℤ, pos, negsuc, IsUtf8, is_ascii_digit, decimal, signed_decimal, flat_map, list_all, scalar, scalars, encodes, and_parts, nat_tests, decimal_by_steps, flat_map-append, is_name, is_name_byte, hex, hex_digit, escaped, is_hex, AreBytes, is_quoted, is_control, IsWhole, is_lead, trail_length, least_second, most_second, character, Plain, Plains, Pairs, int, words, bytes, items, entries, no_items, item, no_entries, entry, node_count, items_node_count, entries_node_count, byte_count, depth, value_text, items_text, entries_text, IsSpelled, AreSpelled, AreEntries, closed, items_byte_count, entries_byte_count, items_depth, entries_depth, behind}
use Rattle.df_value_text.specs.declared.place.Place.TheVariants as place
use Rattle.df_format.proofs.Laws.{told as which}
use Rattle.std.proofs.Math.Utf8.{encode}
use Rattle.df_value_text.proofs.BytesLaws.{digit_is}
use Rattle.df_value_text.proofs.NameLaws.{name_size}
use Rattle.df_value_text.proofs.WordsLaws.{IsChar, itself_is, ascii_small, least_is, most_is, encoded_char}
use Rattle.df_value_text.proofs.WideLaws.{IsTrail, between_is}

-- a walk at this place, within these brackets, with these counts
abbrev pub at : Place → List Bool → ℕ → ℕ → ℕ → Walk
at p brackets n b d = record { place = p; brackets = brackets; nodes = n; bytes = b; deep = d }

pub same : (p : Place) (brackets : List Bool) (n b d n' b' d' : ℕ) → n ≡ n' → b ≡ b' → d ≡ d' → at p brackets n b d ≡ at p brackets n' b' d'
same p brackets n b d n' b' d' e e' e'' = rw (e, e', e'') refl

pub walked-append : (w : Walk) (front rest : List ℕ) → walked w (front ++ rest) ≡ walked (walked w front) rest
walked-append w [] rest = refl
walked-append w (c ∷ front) rest = walked-append (walk w c) front rest

-- walking over these bytes, from the one place to the other, opens or closes brackets and adds these counts
pub record Adds (p : Place) (os : List Bool) (text : List ℕ) (q : Place) (ps : List Bool) (nodes bytes deep : ℕ) : Type 0 where
  pub run : (n b d : ℕ) → walked (at p os n b d) text ≡ at q ps (n + nodes) (b + bytes) (max d deep)

pub nothing : (p : Place) (os : List Bool) → Adds p os [] p os 0 0 0
nothing p os = record { run = λ n b d. same p os n b d (n + 0) (b + 0) (max d 0) (omega arith) (omega arith) (omega arith) }

module _ {p : Place} {os : List Bool} {s : List ℕ} {q : Place} {ps : List Bool} {nodes bytes deep nodes' bytes' deep' : ℕ}
    (left : Adds p os s q ps nodes bytes deep) where
  -- the same counts, told otherwise
  pub told : nodes ≡ nodes' → bytes ≡ bytes' → deep ≡ deep' → Adds p os s q ps nodes' bytes' deep'
  told e e' e'' = record {
    run = λ n b d.
        left.run n b d ∙ same q ps (n + nodes) (b + bytes) (max d deep) (n + nodes') (b + bytes') (max d deep') (omega arith) (omega arith) (omega arith);
  }

  -- one text behind the other
  pub joins : {t : List ℕ} {r : Place} {qs : List Bool} → Adds q ps t r qs nodes' bytes' deep'
      → Adds p os (s ++ t) r qs (nodes + nodes') (bytes + bytes') (max deep deep')
  joins {t} {r} {qs} right = record {
    run = λ n b d.
        walked-append (at p os n b d) s t ∙ ap (λ (w : Walk). walked w t) (left.run n b d) ∙ right.run (n + nodes) (b + bytes) (max d deep)
        ∙ same r qs ((n + nodes) + nodes') ((b + bytes) + bytes') (max (max d deep) deep') (n + (nodes + nodes')) (b + (bytes + bytes'))
        (max d (max deep deep')) (omega arith) (omega arith) (omega arith);
  }

-- a text, a byte that counts nothing, others and a last byte
pub and_more : {p : Place} {os : List Bool} {s : List ℕ} {q : Place} {ps : List Bool} {r : Place} {qs : List Bool} {u : Place} {us : List Bool} {nodes bytes
    deep nodes' bytes' deep' : ℕ} (c last : ℕ) (others : List ℕ) → Adds p os s q ps nodes bytes deep → Adds q ps (c ∷ []) r qs 0 0 0
    → Adds r qs (others ++ last ∷ []) u us nodes' bytes' deep'
    → Adds p os ((s ++ (c ∷ others)) ++ last ∷ []) u us (nodes + nodes') (bytes + bytes') (max deep deep')
and_more {p} {os} {s} {q} {ps} {r} {qs} {u} {us} {nodes} {bytes} {deep} {nodes'} {bytes'} {deep'} c last others left between right =
    subst (λ (t : List ℕ). Adds p os t u us (nodes + nodes') (bytes + bytes') (max deep deep')) (sym (append_assoc s (c ∷ others) (last ∷ [])))
    (told (joins left (joins between right)) (omega arith) (omega arith) (omega arith))

-- a byte that begins no literal
pub passes : {p : Place} {os : List Bool} {c : ℕ} {q : Place} {ps : List Bool} {weighed : ℕ}
    → begins p c ≡ false → next p os c ≡ q → nested p os c ≡ ps → weight p c ≡ weighed → Adds p os (c ∷ []) q ps 0 weighed 0
passes {q = q} {ps = ps} {weighed = weighed} opens_none is brackets adds = record {
  run = λ n b d.
      rw (opens_none, is, brackets, adds) (same q ps n (b + weighed) d (n + 0) (b + weighed) (max d 0) (omega arith) refl (omega arith));
}

-- a byte that begins one
pub opens : {os : List Bool} {c : ℕ} {q : Place} {ps : List Bool}
    → begins place.Before c ≡ true → next place.Before os c ≡ q → nested place.Before os c ≡ ps → Adds place.Before os (c ∷ []) q ps 1 0 (length os + 1)
opens opens_one is brackets = record { run = λ n b d. rw (opens_one, is, brackets) refl }

-- ---- numbers

digit_digit : (d : ℕ) → d < 10 → is_ascii_digit (48 + d) ≡ true
digit_digit d lt = grind (arith, nat_tests)

digit_on : (os : List Bool) (d : ℕ) → d < 10 → Adds place.Number os ((48 + d) ∷ []) place.Number os 0 0 0
digit_on os d lt = passes refl (rw (digit_digit d lt) refl) (grind (arith, nat_tests)) refl

digit_first : (os : List Bool) (d : ℕ) → d < 10 → Adds place.Before os ((48 + d) ∷ []) place.Number os 1 0 (length os + 1)
digit_first os d lt = opens (rw (digit_digit d lt) refl) (rw (digit_digit d lt) refl) (grind (arith, nat_tests))

digits_on : (os : List Bool) (n : ℕ) → n < 2 ^ 64 → Adds place.Number os (decimal n) place.Number os 0 0 0
digits_on os = decimal_by_steps (λ n ds. Adds place.Number os ds place.Number os 0 0 0) (digit_on os)
    (λ n ds ge h. joins h (digit_on os (n % 10) (omega arith)))

digits_first : (os : List Bool) (n : ℕ) → n < 2 ^ 64 → Adds place.Before os (decimal n) place.Number os 1 0 (length os + 1)
digits_first os =
    decimal_by_steps (λ n ds. Adds place.Before os ds place.Number os 1 0 (length os + 1)) (digit_first os)
    (λ n ds ge h. told (joins h (digit_on os (n % 10) (omega arith))) refl refl (omega arith))

pub number_adds : (z : ℤ) → IsWhole z → (os : List Bool) → Adds place.Before os (signed_decimal z) place.Number os 1 0 (length os + 1)
number_adds (pos n) fits os = digits_first os n (omega arith)
number_adds (negsuc n) fits os =
    let sign : Adds place.Before os (45 ∷ []) place.Number os 1 0 (length os + 1) = opens refl refl refl in
    told (joins sign (digits_on os (suc n) (omega arith))) refl refl (omega arith)

-- ---- words

-- in words a byte adds as much as it does
abbrev InWords : List Bool → List ℕ → ℕ → Type 0
InWords os text k = Adds place.Words os text place.Words os 0 k 0

first_slash : (os : List Bool) → Adds place.Words os (92 ∷ []) place.Escape os 0 1 0
first_slash os = passes refl refl refl refl

-- a `"` or a `\` in words
quoted_adds : (os : List Bool) (c : ℕ) → is_quoted c ≡ true → InWords os (92 ∷ c ∷ []) 1
quoted_adds os c h =
    let behind : Adds place.Escape os (c ∷ []) place.Words os 0 0 0 = passes refl (rw h refl) refl refl in
    joins (first_slash os) behind

digit_unquoted : (d : ℕ) → d < 16 → is_quoted (hex_digit d) ≡ false
digit_unquoted d lt = grind (arith, nat_tests)

-- a control byte in words
control_adds : (os : List Bool) (c : ℕ) → c < 128 → InWords os (92 ∷ hex c) 1
control_adds os c lt =
    let high : Adds place.Escape os (hex_digit (c / 16) ∷ []) place.EscapeDigit os 0 0 0 = passes refl
    (rw (digit_unquoted (c / 16) (omega arith)) refl) refl refl in
    let low : Adds place.EscapeDigit os (hex_digit (c % 16) ∷ []) place.Words os 0 0 0 = passes refl refl refl refl in
    joins (first_slash os) (joins high low)

itself_adds : (os : List Bool) (c k : ℕ) → is_quoted c ≡ false → is_control c ≡ false → character c ≡ k → InWords os (escaped c) k
itself_adds os c k unquoted free e =
    let quote : eqb c 34 ≡ false = grind (arith, nat_tests) in
    let slash : eqb c 92 ≡ false = grind (arith, nat_tests) in
    let one : InWords os (c ∷ []) k = passes refl (rw (quote, slash) refl) refl (rw quote e) in
    subst (λ (u : List ℕ). InWords os u k) (sym (itself_is c unquoted free)) one

ascii_adds : (os : List Bool) (c : ℕ) → c < 128 → InWords os (escaped c) 1
ascii_adds os c lt = elim (which (is_quoted c)) [
  | inl e ↦ subst (λ (u : List ℕ). InWords os u 1) (sym (let is : escaped c ≡ 92 ∷ c ∷ [] = rw e refl in is)) (quoted_adds os c e)
  | inr e ↦ elim (which (is_control c)) [
    | inl k ↦ subst (λ (u : List ℕ). InWords os u 1) (sym (let is : escaped c ≡ 92 ∷ hex c = rw (e, k) refl in is)) (control_adds os c lt)
    | inr k ↦ itself_adds os c 1 e k (grind (arith, nat_tests))
  ]
]

-- a byte of a longer character
high_adds : (os : List Bool) (c k : ℕ) → 128 ≤ c → character c ≡ k → InWords os (escaped c) k
high_adds os c k ge e = itself_adds os c k (grind (arith, nat_tests)) (grind (arith, nat_tests)) e

-- escapes of these bytes add so much
abbrev Escapes : List Bool → List ℕ → ℕ → Type 0
Escapes os text k = InWords os (flat_map escaped text) k

further : (c : ℕ) → 128 ≤ c → c ≤ 191 → character c ≡ 0
further c ge le = grind (arith, nat_tests)

leads : (c : ℕ) → is_lead c ≡ true → character c ≡ suc (trail_length c)
leads c h = grind (arith, nat_tests)

trail_adds : (os : List Bool) (n least most : ℕ) (bs : List ℕ) → 128 ≤ least → most ≤ 191 → IsTrail n least most bs → Escapes os bs 0 × (length bs ≡ n)
trail_adds os n least most [] low high t = (nothing place.Words os, none n t)
  where
    none : (n : ℕ) → IsTrail n least most [] → 0 ≡ n
    none zero t = refl
    none (suc n) t = absurd t
trail_adds os zero least most (b ∷ bs) low high t = absurd (let no : b ∷ bs ≡ [] = t in cc)
trail_adds os (suc n) least most (b ∷ bs) low high t =
    let r = between_is least most b t.0 in
    let more = trail_adds os n 128 191 bs (omega arith) (omega arith) t.1 in
    (joins (high_adds os b 0 (omega (arith, r.0, low)) (further b (omega (arith, r.0, low)) (omega (arith, r.1, high)))) more.0, rw (more.1) refl)

char_adds : (os : List Bool) (x : List ℕ) → IsChar x → Escapes os x (length x)
char_adds os x (inl h) = subst (λ (u : List ℕ). Escapes os u (length u)) h.2 (joins (ascii_adds os h.0 (ascii_small h.0 h.1)) (nothing place.Words os))
char_adds os [] (inr h) = absurd h
char_adds os (lead ∷ bs) (inr h) =
    let r = between_is 194 244 lead h.0 in
    let more = trail_adds os (trail_length lead) (least_second lead) (most_second lead) bs (least_is lead) (most_is lead) h.1 in
    told (joins (high_adds os lead (suc (trail_length lead)) (omega (arith, r.0)) (leads lead h.0)) more.0) refl (omega (arith, more.1)) refl

encodes_add : (os : List Bool) (cs : List ℕ) → scalars cs ≡ true → Escapes os (encodes cs) (length (encodes cs))
encodes_add os [] h = nothing place.Words os
encodes_add os (c ∷ cs) h =
    let both = and_parts (scalar c) (scalars cs) h in
    subst (λ (u : List ℕ). InWords os u (length (encode c ++ encodes cs))) (sym (flat_map-append escaped (encode c) (encodes cs)))
    (told (joins (char_adds os (encode c) (encoded_char c both.0)) (encodes_add os cs both.1)) refl (sym (length-append (encode c) (encodes cs))) refl)

pub text_adds : (os : List Bool) (s : List ℕ) → IsUtf8 s → Escapes os s (length s)
text_adds os s text = subst (λ (u : List ℕ). Escapes os u (length u)) text.1.1 (encodes_add os text.0 text.1.0)

-- ---- bytes

hex_on : (os : List Bool) (c : ℕ) → is_hex c ≡ true → Adds place.Bytes os (c ∷ []) place.BytesDigit os 0 1 0
hex_on os c h =
    let quote : eqb c 34 ≡ false = grind (arith, nat_tests) in
    passes refl (rw (quote, h) refl) refl (rw h refl)

pub pairs_add : (os : List Bool) (s : List ℕ) → AreBytes s → Adds place.Bytes os (flat_map hex s) place.Bytes os 0 (length s) 0
pairs_add os [] fits = nothing place.Bytes os
pairs_add os (x ∷ s) fits =
    let low : Adds place.BytesDigit os (hex_digit (x % 16) ∷ []) place.Bytes os 0 0 0 = passes refl refl refl refl in
    told (joins (joins (hex_on os (hex_digit (x / 16)) (digit_is (x / 16) (omega (arith, fits.0)))) low) (pairs_add os s fits.1)) refl (omega arith) refl

-- ---- names

byte_adds : (os : List Bool) (c : ℕ) → is_name_byte c ≡ true → Adds place.Name os (c ∷ []) place.Name os 0 1 0
byte_adds os c h =
    let equals : eqb c 61 ≡ false = grind (arith, nat_tests) in
    let bracket : eqb c 93 ≡ false = grind (arith, nat_tests) in
    let round : eqb c 41 ≡ false = grind (arith, nat_tests) in
    passes refl (rw (equals, h) refl) (rw (bracket, round) refl) (rw h refl)

name_bytes_add : (os : List Bool) (name : List ℕ) → list_all is_name_byte name ≡ true → Adds place.Name os name place.Name os 0 (length name) 0
name_bytes_add os [] h = nothing place.Name os
name_bytes_add os (c ∷ name) h =
    let both = and_parts (is_name_byte c) (list_all is_name_byte name) h in
    told (joins (byte_adds os c both.0) (name_bytes_add os name both.1)) refl (omega arith) refl

pub name_adds : (os : List Bool) (name : List ℕ) → is_name name ≡ true → Adds place.Name os name place.Name os 0 (length name) 0
name_adds os name h = name_bytes_add os name (name_size name h).0

-- where a value ends
abbrev pub ended : Plain → Place
ended (int n) = place.Number
ended _ = place.Behind

-- how deep these items reach at a level
abbrev reached : ℕ → Plains → ℕ
reached level no_items = 0
reached level (item p ps) = max (level + depth p) (reached level ps)

abbrev entries_reached : ℕ → Pairs → ℕ
entries_reached level no_entries = 0
entries_reached level (entry name p es) = max (level + depth p) (entries_reached level es)

reached_is : (level : ℕ) (ps : Plains) → max level (reached level ps) ≡ level + items_depth ps
reached_is level no_items = omega arith
reached_is level (item p ps) = omega (arith, reached_is level ps)

entries_reached_is : (level : ℕ) (es : Pairs) → max level (entries_reached level es) ≡ level + entries_depth es
entries_reached_is level no_entries = omega arith
entries_reached_is level (entry name p es) = omega (arith, entries_reached_is level es)

-- a byte behind a value
behind_it : (p : Plain) {os : List Bool} {c : ℕ} {q : Place} {ps : List Bool} → is_ascii_digit c ≡ false → behind os c ≡ q → closed os c ≡ ps
    → Adds (ended p) os (c ∷ []) q ps 0 0 0
behind_it (int n) digit leads nests = passes refl (rw digit leads) nests refl
behind_it _ digit leads nests = passes refl leads nests refl

-- an opening byte, what stands behind it, and a closing one
words_add : (s : List ℕ) → IsSpelled (words s) → (os : List Bool) → Adds place.Before os (value_text (words s)) place.Behind os 1 (length s) (length os + 1)
words_add s fits os =
    let quote : Adds place.Before os (34 ∷ []) place.Words os 1 0 (length os + 1) = opens refl refl refl in
    let end : Adds place.Words os (34 ∷ []) place.Behind os 0 0 0 = passes refl refl refl refl in
    told (joins quote (joins (text_adds os s fits) end)) refl (omega arith) (omega arith)

bytes_add : (s : List ℕ) → IsSpelled (bytes s) → (os : List Bool) → Adds place.Before os (value_text (bytes s)) place.Behind os 1 (length s) (length os + 1)
bytes_add s fits os =
    let mark : Adds place.Before os (120 ∷ []) place.Marked os 1 0 (length os + 1) = opens refl refl refl in
    let quote : Adds place.Marked os (34 ∷ []) place.Bytes os 0 0 0 = passes refl refl refl refl in
    let end : Adds place.Bytes os (34 ∷ []) place.Behind os 0 0 0 = passes refl refl refl refl in
    told (joins mark (joins quote (joins (pairs_add os s fits) end))) refl (omega arith) (omega arith)

-- a name, `=` and a value
pair_adds : (name : List ℕ) (p : Plain) (os : List Bool) → Adds place.Name os name place.Name os 0 (length name) 0
    → Adds place.Before os (value_text p) (ended p) os (node_count p) (byte_count p) (length os + depth p)
    → Adds place.Name os (name ++ (61 ∷ value_text p)) (ended p) os (node_count p) (length name + byte_count p) (length os + depth p)
pair_adds name p os named one =
    let equals : Adds place.Name os (61 ∷ []) place.Before os 0 0 0 = passes refl refl refl refl in
    told (joins named (joins equals one)) (omega arith) (omega arith) (omega arith)

mutual
  -- walking over a value's spelling counts its nodes and its bytes, and its depth within the brackets that are open
  pub walked_value : (p : Plain) → IsSpelled p → (os : List Bool)
      → Adds place.Before os (value_text p) (ended p) os (node_count p) (byte_count p) (length os + depth p)
  walked_value (int n) fits os = number_adds n fits os
  walked_value (words s) fits os = words_add s fits os
  walked_value (bytes s) fits os = bytes_add s fits os
  walked_value (items ps) fits os =
      let bracket : Adds place.Before os (91 ∷ []) place.Before (false ∷ os) 1 0 (length os + 1) = opens refl refl refl in
      told (joins bracket (walked_items ps fits os)) (omega arith) (omega arith) (omega (arith, reached_is (length os + 1) ps))
  walked_value (entries es) fits os =
      let bracket : Adds place.Before os (40 ∷ []) place.Name (true ∷ os) 1 0 (length os + 1) = opens refl refl refl in
      told (joins bracket (walked_entries es fits os)) (omega arith) (omega arith) (omega (arith, entries_reached_is (length os + 1) es))

  walked_items : (ps : Plains) → AreSpelled ps → (os : List Bool)
      → Adds place.Before (false ∷ os) (items_text ps ++ 93 ∷ []) place.Behind os (items_node_count ps) (items_byte_count ps) (reached (length os + 1) ps)
  walked_items no_items fits os = passes refl refl refl refl
  walked_items (item p no_items) fits os = told (joins (walked_value p fits.0 (false ∷ os)) (behind_it p refl refl refl)) refl refl (omega arith)
  walked_items (item p (item q qs)) fits os =
      told (and_more 44 93 (items_text (item q qs)) (walked_value p fits.0 (false ∷ os)) (behind_it p refl refl refl)
      (walked_items (item q qs) fits.1 os)) refl refl (omega arith)

  walked_entries : (es : Pairs) → AreEntries es → (os : List Bool)
      → Adds place.Name (true ∷ os) (entries_text es ++ 41 ∷ []) place.Behind os (entries_node_count es) (entries_byte_count es)
      (entries_reached (length os + 1) es)
  walked_entries no_entries fits os = passes refl refl refl refl
  walked_entries (entry name p no_entries) fits os =
      told (joins (pair_adds name p (true ∷ os) (name_adds (true ∷ os) name fits.0) (walked_value p fits.1 (true ∷ os)))
      (behind_it p refl refl refl)) refl refl (omega arith)
  walked_entries (entry name p (entry next q es)) fits os =
      told (and_more 44 41 (entries_text (entry next q es)) (pair_adds name p (true ∷ os) (name_adds (true ∷ os) name fits.0)
      (walked_value p fits.1 (true ∷ os)))
      (behind_it p refl refl refl) (walked_entries (entry next q es) (fits.2.0, fits.2.2, fits.2.3) os)) refl refl (omega arith)
