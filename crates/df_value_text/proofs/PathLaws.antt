-- Numbers with dots between them, and the longest tag, are read as they are spelled.
use Rattle.df_value_text.proofs.Names.{reads_begin, ◌≡◌, ℕ, ◌≤◌, true, false, cond, ◌&&◌, eqb, List, [], ◌∷◌, ◌++◌, Ok, Err, refl, sym, ap, subst, ◌∙◌, append_assoc, arith, inl, inr, eq-eqb, is_ascii_digit, decimal, eqb-true, and_parts, nat_tests, append-nil, Stop, Bad, Read, behind_at, items_at, more_spell, items_spell, Format, not_both, told, Follow, Parts, LastEnds, items_told, items_again, Shrinks, format_shrinks, Whole, joined, path_text, tag_text, AreNumbers, IsTag, short_at, begins_digit, leads_number, listed, numbers_at, longest_at}
use Rattle.df_format.proofs.Laws.{Told, told_bind, told_on}
use Rattle.df_value_text.proofs.NumberLaws.{number_apart, number_format, number_goes, number_first, number_of, number_stops, first_fits, digit_refuses}
pub use Rattle.df_format.proofs.Tokens.{nowhere, nowhere_is_local}

-- ---- numbers with dots between them

abbrev pub top : ℕ
top = 4294967295

abbrev pub IsShort : ℕ → Type 0
IsShort n = n ≤ top

pub short_format : (IsLow : List ℕ → List ℕ → Type 0) → Format IsLow decimal IsShort (number_goes top) short_at
short_format IsLow = number_format IsLow top (omega arith)

pub short_shrinks : (prev : ℕ) → Shrinks short_at
short_shrinks prev = format_shrinks nowhere decimal IsShort (number_goes top) short_at (short_format nowhere)

-- a number begins with a digit
pub digit_first : (n : ℕ) (more : List ℕ) → IsShort n → begins_digit (decimal n ++ more) ≡ true
digit_first n more fits =
    let b = reads_begin (short_format nowhere) (digit_refuses top) n fits in
    ap (λ (u : List ℕ). begins_digit (u ++ more)) b.is ∙ b.test

numbers_parts : Parts (λ prev. nowhere) leads_number 46 decimal IsShort (λ prev. IsShort) (number_goes top) (λ prev. short_at)
numbers_parts = record {
  item = λ prev cs fits h. short_format nowhere;
  shrinks = short_shrinks;
  fits = λ prev x fits after. after;
  only = λ prev c cs h. grind (arith, nat_tests);
  led = λ prev x more fits after. rw (digit_first x more after) refl;
  at_sep = λ x fits. number_apart top x 46 refl;
}

-- ---- the longest tag

-- nothing behind these numbers belongs to them
abbrev pub LongEnds : List ℕ → List ℕ → Type 0
LongEnds [] rest = ⊥
LongEnds (n ∷ ns) rest = LastEnds leads_number (number_goes top) n ns rest

-- the same numbers, by the two ways to say that they are of 32 bits
are_numbers : (n : ℕ) (ns : List ℕ) → Follow (λ prev. IsShort) n ns → AreNumbers ns
are_numbers n [] h = tt
are_numbers n (m ∷ ms) h = (omega (arith, h.0), are_numbers m ms h.1)

follow : (n : ℕ) (ns : List ℕ) → AreNumbers ns → Follow (λ prev. IsShort) n ns
follow n [] h = tt
follow n (m ∷ ms) h = (omega (arith, h.0), follow m ms h.1)

-- items with a byte between each two, as they are joined and as they are read
pub joined_items : {X : Type 0} (sep : ℕ) (spell : X → List ℕ) (x : X) (xs : List X) → joined sep spell (x ∷ xs) ≡ items_spell sep spell (x, xs)
joined_items sep spell x [] = sym (append-nil (spell x))
joined_items sep spell x (y ∷ ys) = ap (λ (l : List ℕ). spell x ++ (sep ∷ l)) (joined_items sep spell y ys)

pub record LongFound (bytes tag rest : List ℕ) : Type 0 where
  pub parts : bytes ≡ tag_text tag ++ rest
  pub fits : IsTag tag
  pub ends : LongEnds tag rest

-- what stands behind a byte
pub behind_byte : {X : Type 0} (w : ℕ) (read : List ℕ → Read ℕ X) (bytes : List ℕ) → behind_at (w ∷ []) read (w ∷ bytes) ≡ read bytes
behind_byte w read bytes = rw (eq-eqb w w refl) refl

other_byte : {X : Type 0} (w : ℕ) (read : List ℕ → Read ℕ X) (c : ℕ) (bytes : List ℕ) → eqb c w ≡ false
    → behind_at (w ∷ []) read (c ∷ bytes) ≡ Err (Bad (c ∷ bytes))
other_byte w read c bytes h = rw h refl

pub long_again : (tag rest : List ℕ) → IsTag tag → LongEnds tag rest → longest_at (tag_text tag ++ rest) ≡ Ok (tag, rest)
long_again [] rest fits ends = absurd fits
long_again (n ∷ ns) rest fits ends =
    let first = short_format nowhere in
    let read = items_again numbers_parts (λ n fits. fits) nowhere short_at first (n, ns) rest (omega (arith, fits.0), follow n ns fits.1) ends in
    let same : path_text (n ∷ ns) ++ rest ≡ items_spell 46 decimal (n, ns) ++ rest = ap (λ (u : List ℕ). u ++ rest) (joined_items 46 decimal n ns) in
    behind_byte 35 numbers_at (path_text (n ∷ ns) ++ rest) ∙ ap numbers_at same ∙ rw read refl

-- ---- where numbers stop

pub no_digit : (bytes : List ℕ) → begins_digit bytes ≡ false → short_at bytes ≡ Err (Bad bytes)
no_digit [] h = refl
no_digit (c ∷ cs) h = rw h refl

-- where a digit stands, a number is read
pub digit_reads : (bytes : List ℕ) (stop : Stop ℕ) → begins_digit bytes ≡ true → short_at bytes ≡ Err stop → ⊥
digit_reads [] stop d e = absurd cc
digit_reads (c ∷ cs) stop d e =
    let first : first_fits top c ≡ true = grind (arith, nat_tests) in
    let read = ap (λ b. cond b (Ok (number_of top c cs)) (Err (Bad (c ∷ cs)))) (sym first) ∙ number_first top (c ∷ cs) in
    not_both (number_of top c cs) stop (read ∙ e)

-- numbers stop where no number begins
numbers_told : (bytes : List ℕ) → Told (λ x. LongFound (35 ∷ bytes) x.0 x.1) (λ stop. short_at bytes ≡ Err stop) (numbers_at bytes)
numbers_told bytes =
    told_bind _ _ _ _ (items_at leads_number short_at (λ prev. short_at) bytes) (λ x. Ok (listed x.0, x.1))
    (items_told numbers_parts (λ n fits. fits) (λ stop. short_at bytes ≡ Err stop) (λ prev tokens stop. ⊥) (record {
      one = λ prev c cs stop fits h e. digit_reads cs stop (and_parts (eqb c 46) (begins_digit cs) h).1 e;
      more = λ prev c cs x left stop fits h f no. no;
    }) (short_format nowhere) bytes (λ stop e. e) (λ x left stop f no. absurd no)) (λ x f. record {
      parts = ap (λ (u : List ℕ). 35 ∷ u) (f.parts ∙ ap (λ (u : List ℕ). u ++ x.1) (sym (joined_items 46 decimal x.0.0 x.0.1)));
      fits = (omega (arith, f.fits.0), are_numbers x.0.0 x.0.1 f.fits.1);
      ends = f.ends;
    }) (λ stop e. e)

short_stays : (c : ℕ) (tail other : List ℕ) (stop : Stop ℕ) → short_at (c ∷ tail) ≡ Err stop → numbers_at (c ∷ other) ≡ Err (Bad (c ∷ other))
short_stays c tail other stop e = elim (told (is_ascii_digit c)) [ inl h ↦ absurd (digit_reads (c ∷ tail) stop h e) | inr h ↦ rw (no_digit (c ∷ other) h) refl ]

-- ---- where the longest tag stops

pub record LongStuck (bytes : List ℕ) (stop : Stop ℕ) : Type 0 where
  pub front : List ℕ
  pub rest : List ℕ
  pub bad : stop ≡ Bad rest
  pub parts : bytes ≡ front ++ rest
  pub more : List ℕ
  pub shape : 35 ∷ [] ≡ front ++ more
  pub stays : (c : ℕ) (tail : List ℕ) → rest ≡ c ∷ tail → (other : List ℕ) → longest_at (front ++ c ∷ other) ≡ Err (Bad (c ∷ other))

-- at its first byte
at_first : (bytes : List ℕ) → ((c : ℕ) (tail : List ℕ) → bytes ≡ c ∷ tail → (other : List ℕ) → longest_at (c ∷ other) ≡ Err (Bad (c ∷ other)))
    → LongStuck bytes (Bad bytes)
at_first bytes stays = record { front = []; rest = bytes; bad = refl; parts = refl; more = 35 ∷ []; shape = refl; stays = stays }

pub long_told : (bytes : List ℕ) → Told (λ x. LongFound bytes x.0 x.1) (LongStuck bytes) (longest_at bytes)
long_told [] = at_first [] (λ c tail is. absurd (let no : [] ≡ c ∷ tail = is in cc))
long_told (c ∷ cs) =
    elim (told (eqb c 35)) [
      | inr h ↦
          subst Goal (sym (other_byte 35 numbers_at c cs h))
          (at_first (c ∷ cs) (λ d tail is other. let same : c ≡ d = cc in rw (← same, h) refl))
      | inl h ↦
          let is : c ≡ 35 = eqb-true c 35 h in
          subst Goal (sym (behind_byte 35 numbers_at cs) ∙ ap (λ (v : ℕ). longest_at (v ∷ cs)) (sym is))
          (told_on _ _ _ _ (numbers_at cs) (numbers_told cs) (λ x f. subst (λ (v : ℕ). LongFound (v ∷ cs) x.0 x.1) (sym is) f) (λ stop e. record {
            front = 35 ∷ [];
            rest = cs;
            bad = number_stops top cs stop e;
            parts = ap (λ (v : ℕ). v ∷ cs) is;
            more = [];
            shape = refl;
            stays = λ d tail same other. behind_byte 35 numbers_at (d ∷ other) ∙ short_stays d tail other stop (ap short_at (sym same) ∙ e);
          }))
    ]
  where
    Goal : Read ℕ (List ℕ) → Type 0
    Goal r = Told (λ x. LongFound (c ∷ cs) x.0 x.1) (LongStuck (c ∷ cs)) r

pub long_found : (bytes tag rest : List ℕ) → longest_at bytes ≡ Ok (tag, rest) → LongFound bytes tag rest
long_found bytes tag rest e = subst (Told (λ x. LongFound bytes x.0 x.1) (LongStuck bytes)) e (long_told bytes)

-- a tag that stands somewhere is read to its longest
longest_ok : (tag more : List ℕ) (r : Read ℕ (List ℕ)) → IsTag tag → longest_at (tag_text tag ++ more) ≡ r → (x : List ℕ × List ℕ) × (r ≡ Ok x)
longest_ok tag more (Ok x) fits e = (x, refl)
longest_ok [] more (Err s) fits e = absurd fits
longest_ok (n ∷ ns) more (Err s) fits e =
    let inner = subst (Told (λ x. LongFound (tag_text (n ∷ ns) ++ more) x.0 x.1) (λ stop. short_at (path_text (n ∷ ns) ++ more) ≡ Err stop))
    (sym (behind_byte 35 numbers_at (path_text (n ∷ ns) ++ more)) ∙ e) (numbers_told (path_text (n ∷ ns) ++ more)) in
    let same : path_text (n ∷ ns) ++ more ≡ decimal n ++ (more_spell 46 decimal ns ++ more) = ap (λ (u : List ℕ). u ++ more) (joined_items 46 decimal n ns)
    ∙ append_assoc (decimal n) (more_spell 46 decimal ns) more in
    absurd (digit_reads (path_text (n ∷ ns) ++ more) s (ap begins_digit same ∙ digit_first n (more_spell 46 decimal ns ++ more) (omega (arith, fits.0))) inner)

-- ---- it is the longest

pub long_alone : (n : ℕ) (ns : List ℕ) → LongEnds (n ∷ ns) []
long_alone n [] = (tt, tt)
long_alone n (m ∷ ms) = long_alone m ms

long_less : (n : ℕ) (ns front behind : List ℕ) → LongEnds (n ∷ ns) (front ++ behind) → LongEnds (n ∷ ns) front
long_less n (m ∷ ms) front behind ends = long_less m ms front behind ends
long_less n [] [] behind ends = (tt, tt)
long_less n [] (c ∷ []) behind ends = (ends.0, elim (eqb c 46) as (λ b. (b && false) ≡ false) [ true ↦ refl | false ↦ refl ])
long_less n [] (c ∷ d ∷ ds) behind ends = ends

pub long_whole : Whole tag_text IsTag LongEnds longest_at
long_whole = record {
  again = long_again;
  alone = alone;
  less = less;
  found = λ bytes tag rest e. let f = long_found bytes tag rest e in (f.parts, f.fits, f.ends);
  some = λ tag more fits. longest_ok tag more (longest_at (tag_text tag ++ more)) fits refl;
}
  where
    alone : (tag : List ℕ) → IsTag tag → LongEnds tag []
    alone [] fits = absurd fits
    alone (n ∷ ns) fits = long_alone n ns

    less : (tag front behind : List ℕ) → IsTag tag → LongEnds tag (front ++ behind) → LongEnds tag front
    less [] front behind fits ends = absurd fits
    less (n ∷ ns) front behind fits ends = long_less n ns front behind ends
