-- Why an entry of a right journal stands, by what is noted of it.
use Rattle.df_audit.proofs.Names.{◌≡◌, ℕ, ◌+◌, ◌<◌, List, [], ◌∷◌, ◌++◌, Bool, true, false, ◌||◌, Result, Ok, Err, IfOk, Some, get_or, length, map, reverse, take, refl, ap, sym, subst, ◌∙◌, arith, All, flat_map, flat_map_more, length-map, reverse-reverse, take_more, firsts, rows, RootStart, Entry, Noted, noted, IsClosed, IsGrounds, at_places, set_of, noted_text, head_text, journal_text, Journal, Explains, IsWhyOf, entries_at, entries_in, past_in, roots_in, AreGrounds, ExplainsNoted, Audit, Finding, Right, Wrong, NoPlace}
use Rattle.std.specs.Prelude.{nat_le, ◌==◌, slice_get}
use Rattle.std.proofs.lemmas.Bool.{eq-eqb, le-leb, leb-true}
use Rattle.std.proofs.lemmas.List.{length-append}
use Rattle.std.proofs.lemmas.List.Elements.{All-cons, All-nil, filter_map-append}
use Rattle.std.proofs.lemmas.Option.{slice_get_read}
use Rattle.df_audit.proofs.Sound.{legal_is_sound}
use Rattle.df_audit.proofs.Told.{IsKnown}

-- ---- no place of grounds is behind the entry's

later : (p q : ℕ) (ps : List ℕ) → set_of ps q ≡ true → set_of (p ∷ ps) q ≡ true
later p q ps has = go (p == q)
  where
    go : (b : Bool) → (b || set_of ps q) ≡ true
    go true = refl
    go false = has

-- what holds of each place in a set holds of each in the list
all_of_set : (P : ℕ → Type 0) (places : List ℕ) → ((p : ℕ) → set_of places p ≡ true → P p) → All P places
all_of_set P [] h = All-nil P
all_of_set P (p ∷ ps) h = All-cons P p ps (h p (rw (eq-eqb p p refl) refl)) (all_of_set P ps (λ q has. h q (later p q ps has)))

module _ (begin : List RootStart) (past : List Entry) (place : ℕ) where
  -- all places up to one are a closed set
  up_to_closed : IsClosed rows (firsts begin) (λ p. nat_le p place) past
  up_to_closed = λ newer older e split has. λ middle under x below rests.
      let n = ap (λ (l : List Entry). length l) below ∙ length-append middle (x ∷ under) in
      let within = leb-true (length older) place has in
      le-leb (length under) place (omega (arith, n, within))

  none_behind : (count : ℕ) (places : List ℕ) → IsGrounds rows (firsts begin) past place places → place < count → All (λ p. p < count) places
  none_behind count places g lt = all_of_set (λ p. p < count) places (λ p has.
      let within = leb-true p place (g.least.least (λ q. nat_le q place) (le-leb place place (omega arith)) up_to_closed p has) in
      omega (arith, within, lt))

-- ---- what is told of a journal whose notes are known

unreversed : {X : Type 0} (xs ys : List X) → reverse xs ≡ reverse ys → xs ≡ ys
unreversed xs ys e = sym (reverse-reverse xs) ∙ ap reverse e ∙ reverse-reverse ys

module _ (journal : Journal) (start : List RootStart) (notes : List Noted) (k : IsKnown journal start notes) where
  abbrev bare : List Entry
  bare = map (λ n. n.entry) notes

  entries_known : bare ≡ entries_in journal
  entries_known = unreversed bare (entries_in journal) k.past

  count_known : length notes ≡ length (entries_in journal)
  count_known = sym (length-map notes (λ n. n.entry)) ∙ ap (λ (es : List Entry). length es) entries_known

  -- what is told of the grounds of an entry
  why_told : (place : ℕ) (places : List ℕ) (text : List ℕ) → AreGrounds start bare place places → place < length notes
      → text ≡ journal_text start (at_places places notes) → IsWhyOf place journal text
  why_told place places text of_notes lt told =
      let n = count_known in
      let of_start = subst (λ (es : List Entry). AreGrounds start es place places) entries_known of_notes in
      let g = subst (λ (s : List RootStart). AreGrounds s (entries_in journal) place places) k.same of_start in
      record {
        has = (k.right, omega (arith, n, lt));
        places = places;
        grounds = g.exact;
        told =
            told
            ∙ ap (λ (ns : List Noted). journal_text start (at_places places ns)) k.are.noted
            ∙ ap (λ (p : List Entry). journal_text start (at_places places (noted start p))) k.past
            ∙ ap (λ (s : List RootStart). journal_text s (at_places places (noted s (past_in journal)))) k.same
            ∙ ap (journal_text (roots_in journal)) (sym g.noted);
        last = g.last;
        sound = legal_is_sound (roots_in journal) (entries_at places journal) g.legal;
      }

  explains : (place : ℕ) (finding : Finding) (text : List ℕ) → ExplainsNoted place start notes finding text → Explains place journal finding text
  explains place Right text h = why_told place h.0 text h.1 h.2 h.3
  explains place (Wrong first) text h = absurd h
  explains place (NoPlace count) text h = record { lacks = (k.right, h.0 ∙ count_known, h.1); silent = h.2 }

  pub why_ok : {E : Type 0} (place : ℕ) (r : Result Audit E) → IfOk r (λ a. ExplainsNoted place start notes a.finding a.text.items)
      → IfOk r (λ a. Explains place journal a.finding a.text.items)
  why_ok place (Ok a) h = explains place a.finding a.text.items h
  why_ok place (Err e) h = h

-- no place that is given is behind the entry's
pub are_within : {V E : Type 0} (r : Result V E) (items : V → List ℕ) (begin : List RootStart) (past : List Entry) (place count : ℕ) → place < count
    → IfOk r (λ v. IsGrounds rows (firsts begin) past place (items v)) → IfOk r (λ v. All (λ p. p < count) (items v))
are_within (Ok v) items begin past place count lt g = none_behind begin past place count (items v) g lt
are_within (Err e) items begin past place count lt g = g

-- ---- the text at one more place

-- the notes at one more place
one_more : (places : List ℕ) (notes : List Noted) (i : ℕ) (n : Noted) → i < length places → get_or places i 0 < length notes
    → n ≡ get_or notes (get_or places i 0) n
    → at_places (take (i + 1) places) notes ≡ at_places (take i places) notes ++ n ∷ []
one_more places notes i n within below there =
    let p = get_or places i 0 in
    let found : slice_get notes p ≡ Some n = slice_get_read notes (length notes) p n refl below there in
    let one : at_places (p ∷ []) notes ≡ n ∷ [] = rw found refl in
    ap (λ (ps : List ℕ). at_places ps notes) (take_more places i 0 within)
    ∙ filter_map-append (λ q. slice_get notes q) (take i places) (p ∷ [])
    ∙ ap (λ (ns : List Noted). at_places (take i places) notes ++ ns) one

pub text_more : (start : List RootStart) (places : List ℕ) (notes : List Noted) (i : ℕ) (n : Noted) (old new : List ℕ)
    → i < length places → get_or places i 0 < length notes → n ≡ get_or notes (get_or places i 0) n
    → old ≡ head_text start ++ flat_map noted_text (at_places (take i places) notes) → new ≡ old ++ noted_text n
    → new ≡ head_text start ++ flat_map noted_text (at_places (take (i + 1) places) notes)
text_more start places notes i n old new within below there was is =
    is
    ∙ ap (λ (t : List ℕ). t ++ noted_text n) was
    ∙ flat_map_more noted_text (head_text start) (at_places (take i places) notes) n
    ∙ ap (λ (ns : List Noted). head_text start ++ flat_map noted_text ns) (sym (one_more places notes i n within below there))
