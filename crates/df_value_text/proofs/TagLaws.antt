-- Tags are read as they are spelled.
use Rattle.df_value_text.proofs.Names.{last_ends_at, is_ascii_digit, length, length-append, ◌≤◌, stuck_at, both_false, ◌≡◌, ℕ, ◌+◌, ◌-◌, ◌*◌, ◌<◌, Bool, true, false, cond, eqb, List, [], ◌∷◌, ◌++◌, Ok, Err, refl, sym, ap, subst, ◌∙◌, append_assoc, arith, inl, inr, nat_cmp_is, decimal, Less, eqb-true, nat_tests, Stop, Bad, Low, Read, ◌>>=◌, CanGoOn, IsLongest, Ends, Found, Stuck, IsLocal, Format, chosen, viable_of, LastEnds, last_goes, is_longest, low_as, fitting, tag_cmp, path_text, tag_text, IsTag, leads_number, longest_at, ended, tag_at}
use Rattle.df_value_text.proofs.NameLaws.{tied}
use Rattle.df_value_text.proofs.NumberLaws.{number_apart, number_goes, digit_fits, digit_true, decimal_push}
pub use Rattle.df_format.proofs.Tokens.{nowhere, nowhere_is_local}
use Rattle.df_format.proofs.Laws.{Reads, Told, cond_told, format_of, self_told, told_bind, told_on}
pub use Rattle.df_value_text.proofs.PathLaws.{top, IsShort, short_format, short_shrinks, digit_first, joined_items, behind_byte, LongFound, LongEnds, long_found, long_again}
use Rattle.df_value_text.proofs.PathLaws.{LongStuck, long_told, long_alone, long_whole}

-- ---- longer tags

abbrev leads_dot : ℕ → ℕ → List ℕ → Bool
leads_dot prev c cs = eqb c 46

abbrev pub tag_goes : List ℕ → ℕ → Bool
tag_goes [] c = false
tag_goes (n ∷ ns) c = last_goes leads_dot (number_goes top) n ns c

-- a tag goes on with digits and dots alone
pub tag_ends_at : (tag : List ℕ) (c : ℕ) → is_ascii_digit c ≡ false → eqb c 46 ≡ false → tag_goes tag c ≡ false
tag_ends_at [] c digit dot = refl
tag_ends_at (n ∷ ns) c digit dot = last_ends_at leads_dot (number_goes top) c (λ m. rw (dot, number_apart top m c digit) refl) n ns

-- a tag above this one whose spelling goes on with this byte
pub record Longer (tag : List ℕ) (c : ℕ) : Type 0 where
  pub first : ℕ
  pub others : List ℕ
  pub fits : IsTag (first ∷ others)
  pub more : List ℕ
  pub is : path_text (first ∷ others) ≡ path_text tag ++ c ∷ more
  pub above : tag_cmp tag (first ∷ others) ≡ Less

pub longer : (n : ℕ) (ns : List ℕ) (c : ℕ) → IsTag (n ∷ ns) → tag_goes (n ∷ ns) c ≡ true → Longer (n ∷ ns) c
longer n [] c fits g =
    elim (chosen (eqb c 46) true (number_goes top n c) true g) [
      | inl h ↦
          record {
            first = n;
            others = 0 ∷ [];
            fits = (fits.0, (omega arith, tt));
            more = decimal 0;
            is = ap (λ (v : ℕ). decimal n ++ (v ∷ decimal 0)) (sym (eqb-true c 46 h.0));
            above = rw (tied n) refl;
          }
      | inr h ↦
          let pos : 0 < n = grind (arith, nat_tests) in
          let digit : digit_fits top n c ≡ true = grind (arith, nat_tests) in
          let t = digit_true top n c digit in
          let m : ℕ = 10 * n + (c - 48) in
          let less : n < 10 * n + (c - 48) = omega (arith, pos) in
          let order = nat_cmp_is n (10 * n + (c - 48)) Less less in
          record {
            first = 10 * n + (c - 48);
            others = [];
            fits = (omega (arith, t.2), tt);
            more = [];
            is = decimal_push n c pos t.0 t.1 (omega (arith, t.2));
            above = rw (← order) refl;
          }
    ]
longer n (k ∷ ks) c fits g =
    let r = longer k ks c fits.1 g in
    record {
      first = n;
      others = r.first ∷ r.others;
      fits = (fits.0, r.fits);
      more = r.more;
      is = ap (λ (u : List ℕ). decimal n ++ (46 ∷ u)) r.is ∙ sym (append_assoc (decimal n) (46 ∷ path_text (k ∷ ks)) (c ∷ r.more));
      above = rw (tied n) r.above;
    }

pub with_dot : (tag : List ℕ) → IsTag tag → Longer tag 46
with_dot [] h = absurd h
with_dot (n ∷ ns) h = longer n ns 46 h (dot_on n ns)
  where
    dot_on : (n : ℕ) (ns : List ℕ) → tag_goes (n ∷ ns) 46 ≡ true
    dot_on n [] = refl
    dot_on n (m ∷ ms) = dot_on m ms

-- ---- where a tag ends

-- behind the longest tag no dot stands
abbrev NoDot : List ℕ → Type 0
NoDot [] = Unit {0}
NoDot (c ∷ cs) = eqb c 46 ≡ false

ends_to : (tag rest : List ℕ) → LongEnds tag rest → NoDot rest → Ends tag_goes tag rest
ends_to tag [] ends free = tt
ends_to [] (c ∷ rest) ends free = refl
ends_to (n ∷ []) (c ∷ rest) ends free = rw (free, ends.0) refl
ends_to (n ∷ m ∷ ms) (c ∷ rest) ends free = ends_to (m ∷ ms) (c ∷ rest) ends free

pub to_ends : (n : ℕ) (ns rest : List ℕ) → Ends tag_goes (n ∷ ns) rest → LongEnds (n ∷ ns) rest × NoDot rest
to_ends n ns [] ends = (long_alone n ns, tt)
to_ends n [] (c ∷ rest) ends =
    let b = both_false (eqb c 46) (number_goes top n c) ends in
    ((b.1, rw (b.0) refl), b.0)
to_ends n (m ∷ ms) (c ∷ rest) ends = to_ends m ms (c ∷ rest) ends

-- the longest tag, where no dot stands behind it
ended_told : (x : List ℕ × List ℕ) → Told (λ y. (x ≡ y) × NoDot x.1) (λ stop. (cs : List ℕ) × (x.1 ≡ 46 ∷ cs) × (stop ≡ Bad cs)) (ended x)
ended_told (t, []) = (refl, tt)
ended_told (t, c ∷ cs) = cond_told _ _ (eqb c 46) (Err (Bad cs)) (Ok (t, c ∷ cs)) (λ h. (cs, ap (λ (v : ℕ). v ∷ cs) (eqb-true c 46 h), refl)) (λ h. (refl, h))

ended_free : (tag rest : List ℕ) → NoDot rest → ended (tag, rest) ≡ Ok (tag, rest)
ended_free tag [] free = refl
ended_free tag (c ∷ rest) free = rw free refl

-- the byte behind a dot tells that no number follows
long_ends_same : (n : ℕ) (ns : List ℕ) (c : ℕ) (tail other : List ℕ) → LastEnds leads_number (number_goes top) n ns (46 ∷ c ∷ tail)
    → LastEnds leads_number (number_goes top) n ns (46 ∷ c ∷ other)
long_ends_same n [] c tail other h = h
long_ends_same n (m ∷ ms) c tail other h = long_ends_same m ms c tail other h

ends_same : (tag : List ℕ) (c : ℕ) (tail other : List ℕ) → LongEnds tag (46 ∷ c ∷ tail) → LongEnds tag (46 ∷ c ∷ other)
ends_same [] c tail other h = h
ends_same (n ∷ ns) c tail other h = long_ends_same n ns c tail other h

-- ---- a tag that passes a test

abbrev pub judged : (List ℕ → Bool) → List ℕ → List ℕ × List ℕ → Read ℕ (List ℕ)
judged test bytes tag = cond (test tag.0) (ended tag) (Err (Low bytes))

abbrev pub judged_at : (List ℕ → Bool) → List ℕ → Read ℕ (List ℕ)
judged_at test bytes = longest_at bytes >>= judged test bytes

abbrev pub Passes : (List ℕ → Bool) → List ℕ → Type 0
Passes test tag = IsTag tag × (test tag ≡ true)

pub judged_again : (test : List ℕ → Bool) (tag rest : List ℕ) → Passes test tag → Ends tag_goes tag rest
    → judged_at test (tag_text tag ++ rest) ≡ Ok (tag, rest)
judged_again test [] rest fits ends = absurd fits.0
judged_again test (n ∷ ns) rest fits ends =
    let t = to_ends n ns rest ends in
    ap (λ r. r >>= judged test (tag_text (n ∷ ns) ++ rest)) (long_again (n ∷ ns) rest fits.0 t.0)
    ∙ ap (λ b. cond b (ended (n ∷ ns, rest)) (Err (Low (tag_text (n ∷ ns) ++ rest)))) fits.1 ∙ ended_free (n ∷ ns) rest t.1

pub judged_shorter : (test : List ℕ → Bool) (bytes : List ℕ) → Told (λ y. length y.1 ≤ length bytes) (λ stop. Unit {0}) (judged_at test bytes)
judged_shorter test bytes =
    told_bind _ _ _ _ (longest_at bytes) (judged test bytes) (long_told bytes) (λ x f.
    cond_told _ _ (test x.0) (ended x) (Err (Low bytes)) (λ h. told_on _ _ _ _ (ended x) (ended_told x) (λ y s.
    omega (arith, ap length f.parts, length-append (tag_text x.0) x.1, ap (λ (q : List ℕ × List ℕ). length q.1) s.0)) (λ stop s. tt)) (λ h. tt)) (λ stop s. tt)

-- What a tag that fails the test makes low; a longer tag passes it too, and some tag does.
pub record Judges (test : List ℕ → Bool) (L : List ℕ → Type 0) : Type 0 where
  pub low : (bytes tag more : List ℕ) → IsLongest tag_text IsTag bytes tag more → test tag ≡ false → L bytes
  pub up : (tag : List ℕ) (c : ℕ) → test tag ≡ true → (l : Longer tag c) → test (l.first ∷ l.others) ≡ true
  pub some : (first : ℕ) × (others : List ℕ) × Passes test (first ∷ others)

module _ (test : List ℕ → Bool) (L : List ℕ → Type 0) (j : Judges test L) where
  abbrev pub Near : List ℕ → List ℕ → Type 0
  Near front rest = (front ≡ []) × L rest

  abbrev IsStuck : List ℕ → Stop ℕ → Type 0
  IsStuck bytes stop = Stuck Near tag_text (Passes test) (judged_at test) bytes stop

  unread : (bytes : List ℕ) (stop : Stop ℕ) → LongStuck bytes stop → IsStuck bytes stop
  unread bytes stop s =
      let path : List ℕ = path_text (j.some.0 ∷ j.some.1) in
      let on : CanGoOn tag_text (Passes test) s.front = record {
        some = j.some.0 ∷ j.some.1;
        fits = j.some.2;
        more = s.more ++ path;
        is = ap (λ (u : List ℕ). u ++ path) s.shape ∙ append_assoc s.front s.more path;
      } in
      stuck_at tag_text (Passes test) (judged_at test) bytes s.front s.rest stop s.bad s.parts (viable_of tag_text (Passes test) s.front on)
      (λ c tail other is. rw (s.stays c tail is other) refl)

  longer_can : (tag : List ℕ) (c : ℕ) → test tag ≡ true → Longer tag c → CanGoOn tag_text (Passes test) (tag_text tag ++ c ∷ [])
  longer_can tag c passes l = record {
    some = l.first ∷ l.others;
    fits = (l.fits, j.up tag c passes l);
    more = l.more;
    is = ap (λ (u : List ℕ). 35 ∷ u) (l.is ∙ sym (append_assoc (path_text tag) (c ∷ []) l.more));
  }

  dangling : (bytes : List ℕ) (stop : Stop ℕ) (x : List ℕ × List ℕ) → LongFound bytes x.0 x.1 → test x.0 ≡ true
      → (cs : List ℕ) × (x.1 ≡ 46 ∷ cs) × (stop ≡ Bad cs) → IsStuck bytes stop
  dangling bytes stop x f passes s =
      let l = with_dot x.0 f.fits in
      stuck_at tag_text (Passes test) (judged_at test) bytes (tag_text x.0 ++ 46 ∷ []) s.0 stop s.2
      (f.parts ∙ ap (λ (u : List ℕ). tag_text x.0 ++ u) s.1 ∙ sym (append_assoc (tag_text x.0) (46 ∷ []) s.0))
      (viable_of tag_text (Passes test) (tag_text x.0 ++ 46 ∷ []) (longer_can x.0 46 passes l)) (λ c tail other is.
      let ends : LongEnds x.0 (46 ∷ c ∷ other) = ends_same x.0 c tail other (subst (LongEnds x.0) (s.1 ∙ ap (λ (u : List ℕ). 46 ∷ u) is) f.ends) in
      let again : longest_at (tag_text x.0 ++ (46 ∷ c ∷ other)) ≡ Ok (x.0, 46 ∷ c ∷ other) = long_again x.0 (46 ∷ c ∷ other) f.fits ends in
      ap (judged_at test) (append_assoc (tag_text x.0) (46 ∷ []) (c ∷ other)) ∙ ap (λ r. r >>= judged test (tag_text x.0 ++ (46 ∷ c ∷ other))) again
      ∙ ap (λ b. cond b (Err (Bad (c ∷ other))) (Err (Low (tag_text x.0 ++ (46 ∷ c ∷ other))))) passes)

  judged_reads : (bytes : List ℕ) → Reads Near tag_text (Passes test) tag_goes (judged_at test) bytes (judged_at test bytes)
  judged_reads bytes =
      told_bind _ _ _ _ (longest_at bytes) (judged test bytes) (self_told (longest_at bytes)) (λ x e.
      let f = long_found bytes x.0 x.1 e in
      cond_told _ _ (test x.0) (ended x) (Err (Low bytes)) (λ h.
      told_on _ _ _ _ (ended x) (ended_told x) (λ y s. subst (λ (q : List ℕ × List ℕ). Found tag_text (Passes test) tag_goes bytes q.0 q.1) s.0
      (record { parts = f.parts; fits = (f.fits, h); ends = ends_to x.0 x.1 f.ends s.1 })) (λ stop s. dangling bytes stop x f h s))
      (λ h. record { front = []; parts = refl; viable = tt; cause = (refl, j.low bytes x.0 x.1 (is_longest long_whole bytes x.0 x.1 e) h) }))
      (λ stop e. unread bytes stop (subst (Told (λ x. LongFound bytes x.0 x.1) (LongStuck bytes)) e (long_told bytes)))

  judged_on : (tag : List ℕ) (c : ℕ) → Passes test tag → tag_goes tag c ≡ true → CanGoOn tag_text (Passes test) (tag_text tag ++ c ∷ [])
  judged_on [] c fits g = absurd fits.0
  judged_on (n ∷ ns) c fits g = longer_can (n ∷ ns) c fits.1 (longer n ns c fits.0 g)

  pub judged_format : Format Near tag_text (Passes test) tag_goes (judged_at test)
  judged_format = format_of judged_reads (judged_again test) judged_on

-- ---- a tag

any_tag : Judges (λ tag. true) (λ bytes. ⊥)
any_tag = record {
  low = λ bytes tag more longest h. absurd (let no : true ≡ false = h in cc);
  up = λ tag c h l. refl;
  some =
      (0, [], ((omega arith, tt), refl));
}

pub tag_format : (IsLow : List ℕ → List ℕ → Type 0) → IsLocal IsLow → Format IsLow tag_text IsTag tag_goes tag_at
tag_format IsLow moved = low_as (λ front rest low. absurd low.1)
    (fitting (λ tag fits. fits.0) (λ tag fits. (fits, refl)) (judged_format (λ tag. true) (λ bytes. ⊥) any_tag))
