-- Whole journals: their first line, their roots and their entries; and journals that are gone over.
use Rattle.df_journal_file.proofs.Names.{ok_is, CursorState, HasPassed, front_text, First, IsJournalOf, Journal, Second, journal_by, EndsFile, IsWholeEntry, IsWholeBy, AreLeft, IsEitherFirst, IsFirstAt, IsText, IsWanted, StopsFirst, first_of, EntriesFrom, HeadFrom, IsHere, Onto, StopsIn, unended, journal_back, noted_text, AreRoots, IsJournal, IsNoteOf, IsNoted, line, start_text, Label, IsLine, ended, FileFault, Bad, roots_stand, regroup, Avoids-text, AreRootsAt, StopsAt, RootStart, Entry, Done, Emitted, Noted, begins_with, Bool, IsTrue, List, None, Ok, Option, Some, [], ap, append-nil, append_assoc, arith, codes, drop, eqb, false, inl, inr, length, lit<, map, refl, subst, sym, true, ℕ, ◌++◌, ◌+◌, ◌↔◌, ◌∙◌, ◌∷◌, ◌≡◌, ◌≤◌, Decides-eqb, append_cancel_left, drop-drop, flat_map_more, All-map, All-nil, All-push, All-weaker, recursion_from_All, All, AllByRecursion, flat_map, starts_with}
use mathlib.Core.Bool.{beq}
use Rattle.std.proofs.lemmas.List.Folds.{flat_map-map}
use Rattle.df_lines.specs.declared.fault.FileFault.TheVariants as stop
use Rattle.df_journal_text.specs.ReadEntry.{EndsJournal, journal_at}
use Rattle.std.proofs.lemmas.List.{length-drop}
use Rattle.std.proofs.lemmas.Slice.Eq.{starts_is}
use Rattle.df_lines.proofs.Rows.{IsRow, leads_as, leads_on}
use Rattle.df_journal_file.proofs.Ontos.{line_leads}
use Rattle.df_journal_file.proofs.Roots.{head_some}
use Rattle.df_journal_file.proofs.Rows.{IsKind, bare_kind, bare_stop, row_stop}

-- ---- the text of a journal

-- the line `run`
abbrev pub run_line : List ℕ
run_line = line (codes "run") []

-- the bytes are a journal in this version, with what is noted of its entries
abbrev pub ReadBy : Bool → List ℕ → List RootStart → List Noted → Type 0
ReadBy has bytes roots ns = (AreRoots roots × All (IsWholeBy has) ns)
    × ((end : List ℕ) × EndsFile end × (bytes ≡ front_text has roots ++ flat_map noted_text ns ++ end))

-- an entry with a note, without one, and one without its note
abbrev with_note : Entry → Option Label → Noted
with_note entry note = record { entry = entry; contamination = note }

abbrev bare_noted : Entry → Noted
bare_noted entry = with_note entry None

abbrev entry_of : Noted → Entry
entry_of n = n.entry

bare_entries : (es : List Entry) → map entry_of (map bare_noted es) ≡ es
bare_entries [] = refl
bare_entries (e ∷ es) = ap (λ (l : List Entry). e ∷ l) (bare_entries es)

noted_entries : (ns : List Noted) → AllByRecursion (IsWholeBy false) ns → ns ≡ map bare_noted (map entry_of ns)
noted_entries [] f = refl
noted_entries (n ∷ ns) f =
    ap (λ (note : Option Label). with_note n.entry note ∷ ns) f.0.1
    ∙ ap (λ (l : List Noted). bare_noted n.entry ∷ l) (noted_entries ns f.1)

-- a journal in its first version notes nothing
module _ (bytes : List ℕ) (roots : List RootStart) where
  plain_by : (es : List Entry) → IsJournalOf (First roots es) bytes → ReadBy false bytes roots (map bare_noted es)
  plain_by es r =
      let fits = All-weaker IsWholeEntry (λ e. IsWholeBy false (bare_noted e)) (λ e w. (w, refl)) es r.0.1 in
      let same = ap (λ (u : List ℕ). front_text false roots ++ u ++ r.1.0) (sym (flat_map-map noted_text bare_noted es)) in
      ((r.0.0, All-map (IsWholeBy false) bare_noted es fits), (r.1.0, r.1.1, r.1.2 ∙ same))

  -- what was read, as callers are told
  pub journal_is : (has : Bool) (ns : List Noted) → ReadBy has bytes roots ns → IsJournalOf (journal_by has roots ns) bytes
  journal_is true ns r = r
  journal_is false ns r =
      let bare = noted_entries ns (recursion_from_All (IsWholeBy false) ns r.0.1) in
      let same = ap (λ (l : List Noted). flat_map noted_text l) bare ∙ flat_map-map noted_text bare_noted (map entry_of ns) in (
        (r.0.0, All-map IsWholeEntry entry_of ns (All-weaker (IsWholeBy false) (λ n. IsWholeEntry n.entry) (λ n w. w.0) ns r.0.1)),
        (r.1.0, r.1.1, r.1.2 ∙ ap (λ (u : List ℕ). front_text false roots ++ u ++ r.1.0) same),
      )

-- ---- the bytes are a journal

-- in its own version
abbrev pub version_of : Journal → Bool
version_of (First roots es) = false
version_of (Second roots ns) = true

pub text_of : (bytes : List ℕ) (j : Journal) → IsJournalOf j bytes → IsText (Some (version_of j)) bytes
text_of bytes (First roots es) r = (roots, es, r.1.0, r.0, r.1.1, r.1.2)
text_of bytes (Second roots ns) r = (roots, ns, r.1.0, r.0, r.1.1, r.1.2)

-- in any that is wanted
pub wanted_text : (wanted : Option Bool) (has : Bool) (bytes : List ℕ) → IsWanted wanted has → IsText (Some has) bytes → IsText wanted bytes
wanted_text (Some wanted) has bytes w t = subst (λ (v : Bool). IsText (Some v) bytes) (sym w) t
wanted_text None true bytes w t = inr t
wanted_text None false bytes w t = inl t

-- what was read in a version is a text in it
text_by : (has : Bool) (bytes : List ℕ) (roots : List RootStart) (ns : List Noted) → ReadBy has bytes roots ns → IsText (Some has) bytes
text_by true bytes roots ns r = text_of bytes (Second roots ns) r
text_by false bytes roots ns r = text_of bytes (First roots (map entry_of ns)) (journal_is bytes roots false ns r)

-- the journal that the bytes of a version are
journal_of : (wanted : Option Bool) (bytes : List ℕ) → IsText wanted bytes → (j : Journal) × IsWanted wanted (version_of j) × IsJournalOf j bytes
journal_of (Some true) bytes t = (Second t.0 t.1, refl, (t.3, (t.2, t.4, t.5)))
journal_of (Some false) bytes t = (First t.0 t.1, refl, (t.3, (t.2, t.4, t.5)))
journal_of None bytes (inl t) = (First t.0 t.1, tt, (t.3, (t.2, t.4, t.5)))
journal_of None bytes (inr t) = (Second t.0 t.1, tt, (t.3, (t.2, t.4, t.5)))

-- a journal as one in its version
record IsBy (j : Journal) (bytes : List ℕ) : Type 0 where
  roots : List RootStart
  notes : List Noted
  is : j ≡ journal_by (version_of j) roots notes
  read : ReadBy (version_of j) bytes roots notes

by_version : (bytes : List ℕ) (j : Journal) → IsJournalOf j bytes → IsBy j bytes
by_version bytes (First roots es) r =
    record { roots = roots; notes = map bare_noted es; is = ap (First roots) (sym (bare_entries es)); read = plain_by bytes roots es r }
by_version bytes (Second roots ns) r = record { roots = roots; notes = ns; is = refl; read = r }

-- ---- the first line

-- what stands behind it
abbrev tail_of : List RootStart → List Noted → List ℕ → List ℕ
tail_of roots ns end = start_text roots ++ (run_line ++ (flat_map noted_text ns ++ end))

behind_first : (has : Bool) (bytes : List ℕ) (roots : List RootStart) (ns : List Noted) (r : ReadBy has bytes roots ns)
    → bytes ≡ ended (first_of has) ++ tail_of roots ns r.1.0
behind_first has bytes roots ns r = r.1.2 ∙ regroup (ended (first_of has)) (start_text roots) run_line (flat_map noted_text ns) r.1.0

-- and behind it they are a journal
with_first : (has : Bool) (rest : List ℕ) → HeadFrom has 0 rest → IsText (Some has) (ended (first_of has) ++ rest)
with_first has rest h =
    let t = h.4 in
    let whole = ap (λ (v : List ℕ). ended (first_of has) ++ v) (h.5 ∙ ap (λ (v : List ℕ). start_text h.0 ++ (run_line ++ v)) t.4) in
    text_by has (ended (first_of has) ++ rest) h.0 t.0 (
      ((omega (arith, h.2), h.3), t.2),
      (t.1, t.3, whole ∙ sym (regroup (ended (first_of has)) (start_text h.0) run_line (flat_map noted_text t.0) t.1)),
    )

-- it is a line of its version
first_free : (has : Bool) → IsLine (first_of has)
first_free true = Avoids-text (first_of true) refl
first_free false = Avoids-text (first_of false) refl

first_byte : (has : Bool) (u : List ℕ) → begins_with 100 (ended (first_of has) ++ u) ≡ true
first_byte true u = refl
first_byte false u = refl

either_first : (has : Bool) → IsEitherFirst (first_of has)
either_first true = inr refl
either_first false = inl refl

-- which tells the version
same_first : (has k : Bool) (u v : List ℕ) → ended (first_of has) ++ u ≡ ended (first_of k) ++ v → (has ≡ k) × (u ≡ v)
same_first true true u v e = (refl, append_cancel_left (ended (first_of true)) u v e)
same_first false false u v e = (refl, append_cancel_left (ended (first_of false)) u v e)
same_first true false u v e = absurd (let no : false ≡ true = ap (λ (w : List ℕ). begins_with 49 (drop 15 w)) e in cc)
same_first false true u v e = absurd (let no : true ≡ false = ap (λ (w : List ℕ). begins_with 49 (drop 15 w)) e in cc)

-- the first line of a journal in a version that is wanted
abbrev first_line : Bool → List ℕ
first_line has = ended (first_of has)

first_kind : (wanted : Option Bool) → IsKind first_line (IsWanted wanted) (λ _. ⊥)
first_kind wanted = bare_kind 100 (λ front no. no) first_byte

some_wanted : (wanted : Option Bool) → (has : Bool) × IsWanted wanted has
some_wanted (Some has) = (has, refl)
some_wanted None = (false, tt)

module _ (wanted : Option Bool) where
  -- the first line, and what stands behind it
  text_row : IsRow first_line (IsWanted wanted) (IsText wanted) (λ has. HeadFrom has 0) (λ _. ⊥)
  text_row = record {
    feeds = λ has w. record { line = first_of has; free = first_free has; is = refl };
    from = λ u t.
        let j = journal_of wanted u t in
        let r = by_version u j.0 j.2 in
        let end = r.read.1.0 in
        let entries : EntriesFrom (version_of j.0) (flat_map noted_text r.notes ++ end) = (r.notes, end, r.read.0.1, r.read.1.1, refl) in
        let head : HeadFrom (version_of j.0) 0 (tail_of r.roots r.notes end) = (r.roots, _, omega (arith, r.read.0.0.0), r.read.0.0.1, entries, refl) in
        inr (version_of j.0, tail_of r.roots r.notes end, j.1, head, behind_first (version_of j.0) u r.roots r.notes r.read);
    to = λ has u w h. wanted_text wanted has (first_line has ++ u) w (with_first has u h);
    apart = λ has u w no. no;
    same = λ has k w v e u h. subst (λ (b : Bool). HeadFrom b 0 u) (sym (same_first has k [] [] (ap (λ (l : List ℕ). l ++ []) e)).0) h;
    some = λ has w. head_some has 0 (lit< tt);
    one = some_wanted wanted;
  }

  -- behind the first line
  pub text_onto : (has : Bool) → IsWanted wanted has → (bytes : List ℕ) (place : ℕ) → IsFirstAt (first_of has) bytes place
      → Onto (IsText wanted) bytes 0 (HeadFrom has 0) place
  text_onto has w bytes place i = leads_on bytes 0 place (leads_as i.1 (line_leads text_row has w (drop place bytes)))

  -- another line is bad
  first_stop : {Is : List ℕ → Type 0} (bytes bad : List ℕ) → ((has : Bool) → IsWanted wanted has → Is (first_of has)) → StopsAt Is bytes bad
      → StopsIn (IsText wanted) bytes 0 (stop.Bad 0)
  first_stop {Is} bytes bad is s =
      row_stop (first_kind wanted) text_row bytes 0 (omega arith) (λ u like no. no) (stop.Bad 0)
      (bare_stop (λ line has w e. subst Is (sym (unended line (first_of has) e)) (is has w)) bytes 0 0 (refl, (bad, s)))

  pub text_stop : (bytes : List ℕ) (f : FileFault) → StopsFirst IsEitherFirst bytes f → StopsIn (IsText wanted) bytes 0 f
  text_stop bytes stop.NoMemory s = tt
  text_stop bytes (stop.Bad place) s =
      subst (λ (p : ℕ). StopsIn (IsText wanted) bytes 0 (stop.Bad p)) (sym s.0) (first_stop bytes s.1.0 (λ has w. either_first has) s.1.1)
  text_stop bytes (stop.TooLarge place) s = absurd s

-- so is that of a version that isn't wanted
pub other_stop : (wanted : Option Bool) (k : Bool) → ¬ IsWanted wanted k → (bytes : List ℕ) (at : ℕ) → IsFirstAt (first_of k) bytes at
    → StopsIn (IsText wanted) bytes 0 (stop.Bad 0)
other_stop wanted k none bytes at i =
    first_stop wanted {Is = λ l. (has : Bool) × IsWanted wanted has × (l ≡ first_of has)} bytes (first_of k) (λ has w. (has, w, refl)) (record {
      behind = 10 ∷ drop at bytes;
      parts = i.1 ∙ append_assoc (first_of k) (10 ∷ []) (drop at bytes);
      line = first_free k;
      end = refl;
      refused = λ more e is. none (subst (IsWanted wanted) (sym (same_first k is.0 [] [] (ap (λ (l : List ℕ). ended l ++ []) is.2)).0) is.1);
    })

-- whether a version is the one that is wanted, as the test tells it
pub same_version : (has k : Bool) → IsTrue (beq has k) ↔ has ≡ k
same_version true true = (λ t. refl, λ e. refl)
same_version false false = (λ t. refl, λ e. refl)
same_version true false = (λ t. absurd (let no : false ≡ true = t in cc), λ e. absurd (let no : true ≡ false = e in cc))
same_version false true = (λ t. absurd (let no : false ≡ true = t in cc), λ e. absurd (let no : false ≡ true = e in cc))

-- ---- a text is that of one journal

-- an end is the end of a journal
ends_journal : (end : List ℕ) → EndsFile end → EndsJournal end
ends_journal end (inl e) = subst EndsJournal (sym e) (search parts 2)
ends_journal end (inr e) = subst EndsJournal (sym e.1) (search parts 2)

-- nothing may be noted of any entry
not_noted : (e : Entry) → IsNoteOf e None
not_noted (Done actor call r effect) = tt
not_noted (Emitted commit) = tt

-- a whole entry fits with its note
is_noted : (has : Bool) (n : Noted) → IsWholeBy has n → IsNoted n
is_noted true n w = w.0
is_noted false n w = (w.0.0, subst (λ (note : Option Label). IsNoteOf n.entry note) (sym w.1) (not_noted n.entry))

-- what stands behind the first line is read back in the second version
tail_back : (has : Bool) (bytes : List ℕ) (roots : List RootStart) (ns : List Noted) (r : ReadBy has bytes roots ns)
    → journal_at (ended (first_of true) ++ tail_of roots ns r.1.0) ≡ Ok ((roots, ns), r.1.0)
tail_back has bytes roots ns r =
    let fits : IsJournal roots ns = (r.0.0, All-weaker (IsWholeBy has) IsNoted (is_noted has) ns r.0.1) in
    ap journal_at (sym (regroup (ended (first_of true)) (start_text roots) run_line (flat_map noted_text ns) r.1.0))
    ∙ journal_back roots ns r.1.0 fits (ends_journal r.1.0 r.1.1)

-- two journals that these bytes are
pub one_journal : (bytes : List ℕ) (j k : Journal) → IsJournalOf j bytes → IsJournalOf k bytes → j ≡ k
one_journal bytes j k a b =
    let r = by_version bytes j a in
    let s = by_version bytes k b in
    let first = behind_first (version_of j) bytes r.roots r.notes r.read in
    let same = same_first (version_of j) (version_of k) _ _ (sym first ∙ behind_first (version_of k) bytes s.roots s.notes s.read) in
    let both = ok_is ((r.roots, r.notes), r.read.1.0) ((s.roots, s.notes), s.read.1.0) (sym (tail_back (version_of j) bytes r.roots r.notes r.read)
    ∙ ap (λ (v : List ℕ). journal_at (ended (first_of true) ++ v)) same.1 ∙ tail_back (version_of k) bytes s.roots s.notes s.read) in
    r.is ∙ ap (λ (v : Bool). journal_by v r.roots r.notes) same.0
    ∙ ap (λ (q : (List RootStart × List Noted) × List ℕ). journal_by (version_of k) q.0.0 q.0.1) both ∙ sym s.is

pub one_plain : (bytes : List ℕ) (roots others : List RootStart) (es ds : List Entry) → IsJournalOf (First roots es) bytes
    → IsJournalOf (First others ds) bytes → (roots ≡ others) × (es ≡ ds)
one_plain bytes roots others es ds r s =
    let same : First roots es ≡ First others ds = one_journal bytes (First roots es) (First others ds) r s in
    (cc, cc)

pub one_noted : (bytes : List ℕ) (roots others : List RootStart) (ns ms : List Noted) → IsJournalOf (Second roots ns) bytes
    → IsJournalOf (Second others ms) bytes → (roots ≡ others) × (ns ≡ ms)
one_noted bytes roots others ns ms r s =
    let same : Second roots ns ≡ Second others ms = one_journal bytes (Second roots ns) (Second others ms) r s in
    (cc, cc)

pub not_both : (bytes : List ℕ) (roots others : List RootStart) (es : List Entry) (ns : List Noted) → IsJournalOf (First roots es) bytes
    → IsJournalOf (Second others ns) bytes → ⊥
not_both bytes roots others es ns r s =
    let same : First roots es ≡ Second others ns = one_journal bytes (First roots es) (Second others ns) r s in
    cc

-- ---- journals that are gone over

-- the cursor at a place
abbrev pub cursor_at : Bool → List ℕ → ℕ → CursorState
cursor_at has bytes place = record { bytes = bytes; has_notes = has; place = place }

-- whether these lines stand at the place
abbrev pub StandIf : Bool → List ℕ → CursorState → Type 0
StandIf stand lines c = IsTrue stand ↔ ((rest : List ℕ) × (drop c.place c.bytes ≡ lines ++ rest))

module _ (has : Bool) (bytes : List ℕ) where
  -- the test tells it
  pub lines_stand : (place : ℕ) (lines : List ℕ) {result stand : Bool} → result ≡ stand → result ≡ starts_with eqb (drop place bytes) lines
      → StandIf stand lines (cursor_at has bytes place)
  lines_stand place lines {result} {stand} is value =
      let told = starts_is Decides-eqb (drop place bytes) lines stand (sym is ∙ value) in
      ((λ t. (drop (length lines) (drop place bytes), told.0 t)), λ here. told.1 here.0 here.1)

  -- what stands before the entries was read
  pub begun : (at : ℕ) (roots : List RootStart) (place : ℕ) → IsFirstAt (first_of has) bytes at → AreRootsAt bytes at roots place
      → HasPassed roots [] (cursor_at has bytes place)
  begun at roots place i r = record {
    inside = r.inside;
    begun = (r.passed.few, r.passed.fit);
    fit = All-nil (IsWholeBy has);
    text =
        i.1
        ∙ ap (λ (v : List ℕ). ended (first_of has) ++ v)
        (roots_stand bytes at roots place r)
        ∙ sym (regroup (ended (first_of has)) (start_text roots) run_line [] (drop place bytes));
  }

  -- one more entry was read
  pub passed_on : (roots : List RootStart) (notes : List Noted) (noted : Noted) (place next : ℕ) → HasPassed roots notes (cursor_at has bytes place)
      → IsHere noted_text (IsWholeBy has) bytes place noted next → HasPassed roots (notes ++ noted ∷ []) (cursor_at has bytes next)
  passed_on roots notes noted place next p h =
      let front = front_text has roots in
      record {
        inside = h.inside;
        begun = p.begun;
        fit = All-push (IsWholeBy has) notes noted p.fit h.fits;
        text =
            p.text
            ∙ ap (λ (u : List ℕ). front ++ flat_map noted_text notes ++ u) h.parts
            ∙ sym (append_assoc (front ++ flat_map noted_text notes) (noted_text noted) (drop next bytes))
            ∙ ap (λ (u : List ℕ). u ++ drop next bytes) (flat_map_more noted_text front notes noted);
      }

  -- an entry's lines were passed
  pub passed_lines : (roots : List RootStart) (notes : List Noted) (noted : Noted) (place : ℕ) (lines : List ℕ)
      → HasPassed roots notes (cursor_at has bytes place)
      → IsWholeBy has noted → lines ≡ noted_text noted → length lines ≤ length (drop place bytes) → true ≡ starts_with eqb (drop place bytes) lines
      → HasPassed roots (notes ++ noted ∷ []) (cursor_at has bytes (place + length lines))
  passed_lines roots notes noted place lines p whole spelled short is =
      let inside = p.inside in
      let within : place + length lines ≤ length bytes = omega (arith, inside, short, length-drop place bytes) in
      let stands = (starts_is Decides-eqb (drop place bytes) lines true is).0 refl in
      let lie = stands ∙ ap (λ (u : List ℕ). lines ++ u) (drop-drop (length lines) place bytes) in
      let here = lie ∙ ap (λ (u : List ℕ). u ++ drop (place + length lines) bytes) spelled in
      passed_on roots notes noted place _ p (record { fits = whole; onward = omega arith; inside = within; parts = here })

-- where an end stands, what was read is the whole journal
pub all_read : (has : Bool) (bytes : List ℕ) (roots : List RootStart) (notes : List Noted) (place : ℕ)
    → HasPassed roots notes (cursor_at has bytes place) → EndsFile (drop place bytes) → IsJournalOf (journal_by has roots notes) bytes
all_read has bytes roots notes place p ends = journal_is bytes roots has notes ((p.begun, p.fit), (drop place bytes, ends, p.text))

-- where entries and an end stand behind a first line and roots, the bytes are a journal
pub whole_of : (has : Bool) (bytes : List ℕ) (at place : ℕ) (roots : List RootStart) (notes : List Noted) → IsFirstAt (first_of has) bytes at
    → AreRootsAt bytes at roots place → AreLeft has bytes place notes → IsJournalOf (journal_by has roots notes) bytes
whole_of has bytes at place roots notes i r k =
    let p = begun has bytes at roots place i r in
    let front = front_text has roots in
    let text = p.text ∙ ap (λ (u : List ℕ). u ++ drop place bytes) (append-nil front) ∙ ap (λ (u : List ℕ). front ++ u) k.3
    ∙ sym (append_assoc front (flat_map noted_text notes) k.0) in
    journal_is bytes roots has notes ((p.begun, k.1), (k.0, k.2, text))
