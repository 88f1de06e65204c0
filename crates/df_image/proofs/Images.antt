-- An image keeps one journal, or is damaged at one gate.
use Rattle.df_image.proofs.Names.{◌≡◌, ◌⊎◌, inl, inr, ⊎_elim, ℕ, ◌+◌, ◌^◌, ◌<◌, List, [], ◌∷◌, ◌++◌, length, reverse, refl, sym, ◌∙◌, ap, subst, arith, append_assoc, length-append, codes, map, AllByRecursion, append_cancel_left, reverse-reverse, All-from_recursion, All-nil, recursion_from_All, IsEmpty, opened, record_text, BreaksAt, IsDamagedAt, IsKept, IsNext, KeepsJournal, LacksEntry, LacksStart, State, entry_record, records_of, start_record, IsWholeEntry, AreRoots, IsJournal, IsNoteOf, IsNoted, line, RootStart, Entry}
use Rattle.std.specs.Prelude.{None}
use Rattle.df_image.proofs.Readings.{no_roots}
use Rattle.df_image.proofs.SameRecords.{head_of, one_record, tail_of}
use Rattle.df_journal_text.specs.Start.{head_text, journal_text, start_text}
use Rattle.df_journal_text.proofs.JournalBacks.{journal_is_one}
use Rattle.df_rules.proofs.Places.{legal_at}
use Rattle.df_rules.specs.Legal.{IsRight, Legal}
use Rattle.df_rules.specs.Start.{roots, rows}
use Rattle.df_start.specs.Begun.{begun}
use Rattle.df_unit.specs.declared.entry.Entry.TheVariants.{Done, Emitted}
use Rattle.df_unit.specs.declared.entry.Noted.{Noted}

-- ---- records of a start and of an entry

abbrev bare : Entry → Noted
bare entry = record { entry = entry; contamination = None }

note_none : (entry : Entry) → IsNoteOf entry None
note_none (Done actor call r effect) = tt
note_none (Emitted commit) = tt

abbrev first_entry : Entry → List Noted → Entry
first_entry other [] = other
first_entry other (noted ∷ more) = noted.entry

bare_fits : (entry : Entry) → IsWholeEntry entry → IsJournal [] (bare entry ∷ [])
bare_fits entry whole = (no_roots, All-from_recursion IsNoted (bare entry ∷ []) ((whole.0, note_none entry), tt))

pub entry_is_one : (a b : Entry) → IsWholeEntry a → IsWholeEntry b → entry_record a ≡ entry_record b → a ≡ b
entry_is_one a b fits fits_too same =
    let texts : journal_text [] (bare a ∷ []) ≡ journal_text [] (bare b ∷ []) = ap (λ (l : List ℕ). head_text [] ++ (l ++ [])) same in
    ap (λ (ns : List Noted). first_entry a ns) (journal_is_one [] [] (bare a ∷ []) (bare b ∷ []) (bare_fits a fits) (bare_fits b fits_too) texts).1

regroup : (f s r : List ℕ) → ((f ++ s) ++ r) ++ [] ≡ f ++ (s ++ (r ++ []))
regroup f s r = simp append_assoc

pub start_is_one : (roots others : List RootStart) → AreRoots roots → AreRoots others → start_record roots ≡ start_record others → roots ≡ others
start_is_one roots others fits fits_too same =
    let first : List ℕ = line (codes "defcon-journal") (codes "1" ∷ []) in
    let second : List ℕ = line (codes "defcon-journal") (codes "2" ∷ []) in
    let last : List ℕ = line (codes "run") [] in
    let behind : start_text roots ++ (last ++ []) ≡ start_text others ++ (last ++ []) = append_cancel_left first (start_text roots ++ (last ++ []))
    (start_text others ++ (last ++ [])) (sym (regroup first (start_text roots) last) ∙ same ∙ regroup first (start_text others) last) in
    let texts : journal_text roots [] ≡ journal_text others [] = regroup second (start_text roots) last ∙ ap (λ (l : List ℕ). second ++ l) behind
    ∙ sym (regroup second (start_text others) last) in
    (journal_is_one roots others [] [] (fits, All-nil IsNoted) (fits_too, All-nil IsNoted) texts).0

-- ---- two lists of records in front of two gates

abbrev Lists : Type 0
Lists = List (List ℕ)

-- the first list is a front of the second, whose next record stands behind the first one's gate
record IsFrontOf (rs ss : Lists) (gate : ℕ) (rest : List ℕ) : Type 0 where
  bytes : List ℕ
  others : Lists
  next : ℕ
  more : List ℕ
  split : ss ≡ rs ++ bytes ∷ others
  open_gate : gate ≡ 1
  behind : rest ≡ record_text bytes ++ next ∷ more

abbrev AreOne : Lists → Lists → ℕ → ℕ → Type 0
AreOne rs ss g h = (rs ≡ ss) × (g ≡ h)

begins : (ss : Lists) (h : ℕ) (more : List ℕ) → (next : ℕ) × (rest : List ℕ) × (opened ss ++ h ∷ more ≡ next ∷ rest)
begins [] h more = (h, more, refl)
begins (s ∷ ss) h more = (1, (record_text s ++ opened ss) ++ h ∷ more, refl)

front_now : (s : List ℕ) (ss : Lists) (g h : ℕ) (rest more : List ℕ) → g ∷ rest ≡ (1 ∷ record_text s ++ opened ss) ++ h ∷ more → IsFrontOf [] (s ∷ ss) g rest
front_now s ss g h rest more same =
    let b = begins ss h more in
    record {
      bytes = s;
      others = ss;
      next = b.0;
      more = b.1;
      split = refl;
      open_gate = head_of same;
      behind = tail_of same ∙ append_assoc (record_text s) (opened ss) (h ∷ more) ∙ ap (λ (l : List ℕ). record_text s ++ l) b.2;
    }

front_on : (r : List ℕ) (rs ss : Lists) (gate : ℕ) (rest : List ℕ) → IsFrontOf rs ss gate rest → IsFrontOf (r ∷ rs) (r ∷ ss) gate rest
front_on r rs ss gate rest f = record {
  bytes = f.bytes;
  others = f.others;
  next = f.next;
  more = f.more;
  split = ap (λ (l : Lists). r ∷ l) f.split;
  open_gate = f.open_gate;
  behind = f.behind;
}

fork : (rs ss : Lists) (g h : ℕ) (rest more : List ℕ) → length (opened rs ++ g ∷ rest) < 2 ^ 64 → opened rs ++ g ∷ rest ≡ opened ss ++ h ∷ more
    → AreOne rs ss g h ⊎ (IsFrontOf rs ss g rest ⊎ IsFrontOf ss rs h more)
fork [] [] g h rest more small same = inl (refl, head_of same)
fork [] (s ∷ ss) g h rest more small same = inr (inl (front_now s ss g h rest more same))
fork (r ∷ rs) [] g h rest more small same = inr (inr (front_now r rs h g more rest (sym same)))
fork (r ∷ rs) (s ∷ ss) g h rest more small same =
    let left = ap (λ (l : List ℕ). 1 ∷ l) (append_assoc (record_text r) (opened rs) (g ∷ rest)) in
    let right = ap (λ (l : List ℕ). 1 ∷ l) (append_assoc (record_text s) (opened ss) (h ∷ more)) in
    let tails : record_text r ++ (opened rs ++ g ∷ rest) ≡ record_text s ++ (opened ss ++ h ∷ more) = tail_of (sym left ∙ same ∙ right) in
    let sizes = ap (λ (l : List ℕ). length l) left in
    let one = one_record r s (opened rs ++ g ∷ rest) (opened ss ++ h ∷ more) (omega (arith, small, sizes)) tails in
    let rests = append_cancel_left (record_text r) (opened rs ++ g ∷ rest) (opened ss ++ h ∷ more)
    (tails ∙ ap (λ (t : List ℕ). record_text t ++ (opened ss ++ h ∷ more)) (sym one)) in
    let smaller : length (opened rs ++ g ∷ rest) < 2 ^ 64 = omega (arith, small, sizes, length-append (record_text r) (opened rs ++ g ∷ rest)) in
    subst (λ (t : List ℕ). AreOne (r ∷ rs) (t ∷ ss) g h ⊎ (IsFrontOf (r ∷ rs) (t ∷ ss) g rest ⊎ IsFrontOf (t ∷ ss) (r ∷ rs) h more)) one
    (⊎_elim (λ e. inl (ap (λ (l : Lists). r ∷ l) e.0, e.1))
    (λ d. ⊎_elim (λ f. inr (inl (front_on r rs ss g rest f))) (λ f. inr (inr (front_on r ss rs h more f))) d)
    (fork rs ss g h rest more smaller rests))

-- ---- the records of journals

entries_are_one : (es ds : List Entry) → AllByRecursion IsWholeEntry es → AllByRecursion IsWholeEntry ds → map entry_record es ≡ map entry_record ds → es ≡ ds
entries_are_one [] [] whole whole_too same = refl
entries_are_one [] (d ∷ ds) whole whole_too same = absurd (let z : ⊥ = cc in z)
entries_are_one (e ∷ es) [] whole whole_too same = absurd (let z : ⊥ = cc in z)
entries_are_one (e ∷ es) (d ∷ ds) whole whole_too same =
    let heads : entry_record e ≡ entry_record d = cc in
    let tails : map entry_record es ≡ map entry_record ds = cc in
    let one : e ≡ d = entry_is_one e d whole.0 whole_too.0 heads in
    let rest : es ≡ ds = entries_are_one es ds whole.1 whole_too.1 tails in
    ap (λ (x : Entry). x ∷ es) one ∙ ap (λ (l : List Entry). d ∷ l) rest

cores_are_one : (a b : State) → IsKept a → IsKept b → records_of a ≡ records_of b → a ≡ b
cores_are_one a b kept kept_too same =
    let starts : start_record a.0 ≡ start_record b.0 = cc in
    let entries : map entry_record (reverse a.1) ≡ map entry_record (reverse b.1) = cc in
    let first : a.0 ≡ b.0 = start_is_one a.0 b.0 kept.spelled.0 kept_too.spelled.0 starts in
    let back = entries_are_one _ _ (recursion_from_All _ (reverse a.1) kept.spelled.1) (recursion_from_All _ (reverse b.1) kept_too.spelled.1) entries in
    let second : a.1 ≡ b.1 = sym (reverse-reverse a.1) ∙ ap (λ (l : List Entry). reverse l) back ∙ reverse-reverse b.1 in
    ap (λ (x : List RootStart). (x, a.1)) first ∙ ap (λ (y : List Entry). (b.0, y)) second

-- a front of the entries, behind which stands one more
record GoesOn (es ds : List Entry) (bytes : List ℕ) : Type 0 where
  entry : Entry
  later : List Entry
  split : ds ≡ es ++ entry ∷ later
  whole : IsWholeEntry entry
  is : bytes ≡ entry_record entry

goes_on : (es ds : List Entry) (bytes : List ℕ) (others : Lists) → AllByRecursion IsWholeEntry es → AllByRecursion IsWholeEntry ds
    → map entry_record ds ≡ map entry_record es ++ bytes ∷ others → GoesOn es ds bytes
goes_on [] [] bytes others whole whole_too same = absurd (let z : ⊥ = cc in z)
goes_on [] (d ∷ ds) bytes others whole whole_too same = record { entry = d; later = ds; split = refl; whole = whole_too.0; is = cc }
goes_on (e ∷ es) [] bytes others whole whole_too same = absurd (let z : ⊥ = cc in z)
goes_on (e ∷ es) (d ∷ ds) bytes others whole whole_too same =
    let heads : entry_record d ≡ entry_record e = cc in
    let tails : map entry_record ds ≡ map entry_record es ++ bytes ∷ others = cc in
    let one : d ≡ e = entry_is_one d e whole_too.0 whole.0 heads in
    let on = goes_on es ds bytes others whole.1 whole_too.1 tails in
    record {
      entry = on.entry;
      later = on.later;
      split = ap (λ (x : Entry). x ∷ ds) one ∙ ap (λ (l : List Entry). e ∷ l) on.split;
      whole = on.whole;
      is = on.is;
    }

-- where the records of a journal go on behind those of another, the next is the answer
next_is_right : (a b : State) → IsKept a → IsKept b → (bytes : List ℕ) (others : Lists) → records_of b ≡ records_of a ++ bytes ∷ others
    → (entry : Entry) × IsWholeEntry entry × IsNext a entry × (bytes ≡ entry_record entry)
next_is_right a b kept kept_too bytes others same =
    let starts : start_record b.0 ≡ start_record a.0 = cc in
    let entries : map entry_record (reverse b.1) ≡ map entry_record (reverse a.1) ++ bytes ∷ others = cc in
    let first : b.0 ≡ a.0 = start_is_one b.0 a.0 kept_too.spelled.0 kept.spelled.0 starts in
    let on = goes_on _ _ bytes others (recursion_from_All _ (reverse a.1) kept.spelled.1) (recursion_from_All _ (reverse b.1) kept_too.spelled.1) entries in
    let legal = subst (λ (l : List Entry). Legal rows (roots (map begun b.0)) l) (sym (reverse-reverse b.1)) kept_too.legal in
    let right = legal_at rows (roots (map begun b.0)) (reverse b.1) legal (reverse a.1) on.later on.entry on.split in
    let past = subst (λ (l : List Entry). IsRight rows (roots (map begun b.0)) l on.entry) (reverse-reverse a.1) right in
    (on.entry, on.whole, subst (λ (x : List RootStart). IsRight rows (roots (map begun x)) a.1 on.entry) first past, on.is)

-- an image doesn't lack the entry that stands there
not_lacking : (a b : State) → IsKept a → IsKept b → (rest : List ℕ) → LacksEntry a (1 ∷ rest) → ¬ IsFrontOf (records_of a) (records_of b) 1 rest
not_lacking a b kept kept_too rest lacks f =
    let n = next_is_right a b kept kept_too f.bytes f.others f.split in
    lacks n.0 f.next f.more n.1 n.2 (ap (λ (l : List ℕ). 1 ∷ l) (f.behind ∙ ap (λ (t : List ℕ). record_text t ++ f.next ∷ f.more) n.3))

not_startless : (core : State) (g : ℕ) (rest image : List ℕ) → IsKept core → image ≡ opened (records_of core) ++ g ∷ rest → ¬ LacksStart image
not_startless core g rest image kept is lacks =
    let b = begins (map entry_record (reverse core.1)) g rest in
    lacks core.0 b.0 b.1 kept.spelled.0 (is ∙ ap (λ (l : List ℕ). 1 ∷ l) (append_assoc (record_text (start_record core.0))
    (opened (map entry_record (reverse core.1))) (g ∷ rest) ∙ ap (λ (l : List ℕ). record_text (start_record core.0) ++ l) b.2))

-- ---- the laws

pub one_journal : (image : List ℕ) (core other : State) → length image < 2 ^ 64 → KeepsJournal core image → KeepsJournal other image → core ≡ other
one_journal image core other small keeps keeps_too =
    ⊎_elim (λ e. cores_are_one core other keeps.kept keeps_too.kept e.0)
    (λ d. ⊎_elim (λ f. absurd (keeps.keeps.closed f.open_gate)) (λ f. absurd (keeps_too.keeps.closed f.open_gate)) d)
    (fork (records_of core) (records_of other) keeps.keeps.gate keeps_too.keeps.gate keeps.keeps.rest keeps_too.keeps.rest
    (subst (λ (l : List ℕ). length l < 2 ^ 64) keeps.keeps.split small) (sym keeps.keeps.split ∙ keeps_too.keeps.split))

pub kept_is_some : (image : List ℕ) (core : State) → KeepsJournal core image → ¬ IsEmpty image
kept_is_some image core keeps empty = not_empty (subst IsEmpty keeps.keeps.split empty)
  where
    behind : List ℕ
    behind = record_text (start_record core.0) ++ opened (map entry_record (reverse core.1))

    not_empty : ¬ IsEmpty ((1 ∷ behind) ++ keeps.keeps.gate ∷ keeps.keeps.rest)
    not_empty (inl short) = absurd (omega (arith, short, length-append behind (keeps.keeps.gate ∷ keeps.keeps.rest)))
    not_empty (inr shut) = absurd (shut refl)

whole_here : (image : List ℕ) (core : State) (place : ℕ) → length image < 2 ^ 64 → KeepsJournal core image → ¬ BreaksAt place image
whole_here image core place small keeps (inl none) = not_startless core keeps.keeps.gate keeps.keeps.rest image keeps.kept keeps.keeps.split none.lacks
whole_here image core place small keeps (inr breaks) =
    let other = breaks.core in
    let rest = breaks.rest in
    ⊎_elim (λ e. absurd (keeps.keeps.closed e.1))
    (λ d. ⊎_elim (λ f. absurd (keeps.keeps.closed f.open_gate)) (λ f. absurd (not_lacking other core breaks.kept keeps.kept rest breaks.lacks f)) d)
    (fork (records_of core) (records_of other) keeps.keeps.gate 1 keeps.keeps.rest rest (subst (λ (l : List ℕ). length l < 2 ^ 64) keeps.keeps.split small)
    (sym keeps.keeps.split ∙ breaks.split))

pub kept_is_whole : (image : List ℕ) (core : State) (place : ℕ) → length image < 2 ^ 64 → KeepsJournal core image → ¬ IsDamagedAt place image
kept_is_whole image core place small keeps damaged = whole_here image core place small keeps damaged.breaks

one_break : (image : List ℕ) (place other : ℕ) → length image < 2 ^ 64 → BreaksAt place image → BreaksAt other image → place ≡ other
one_break image place other small (inl first) (inl second) = first.at ∙ sym second.at
one_break image place other small (inl first) (inr breaks) = absurd (not_startless breaks.core 1 breaks.rest image breaks.kept breaks.split first.lacks)
one_break image place other small (inr breaks) (inl first) = absurd (not_startless breaks.core 1 breaks.rest image breaks.kept breaks.split first.lacks)
one_break image place other small (inr a) (inr b) =
    ⊎_elim (λ e. a.at ∙ ap (λ (l : Lists). length (opened l)) e.0 ∙ sym b.at)
    (λ d. ⊎_elim (λ f. absurd (not_lacking a.core b.core a.kept b.kept a.rest a.lacks f))
    (λ f. absurd (not_lacking b.core a.core b.kept a.kept b.rest b.lacks f)) d)
    (fork (records_of a.core) (records_of b.core) 1 1 a.rest b.rest (subst (λ (l : List ℕ). length l < 2 ^ 64) a.split small) (sym a.split ∙ b.split))

pub one_damage : (image : List ℕ) (place other : ℕ) → length image < 2 ^ 64 → IsDamagedAt place image → IsDamagedAt other image → place ≡ other
one_damage image place other small damaged damaged_too = one_break image place other small damaged.breaks damaged_too.breaks
