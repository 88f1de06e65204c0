-- Journals that are spelled are read back, so a text is that of one journal.
use Rattle.df_journal_text.proofs.Names.{◌≡◌, ℕ, ◌<◌, ◌||◌, true, false, eqb, List, [], ◌∷◌, ◌++◌, length, Option, Some, None, Ok, codes, decimal, refl, sym, ap, subst, ◌∙◌, append_assoc, arith, inl, inr, is_ascii_digit, flat_map, eqb-true, recursion_from_All, Read, Back, all_back, ok_is, told, Label, RootStart, UnitName, Root, Managed, Commit, Done, Emitted, IsTag, path_text, tags_text, begins_with, begins_digit, Call, Reply, Effect, call_words, effect_text, entry_text, note_text, noted_text, reads_text, spaced, reply_words, IsEntry, IsJournal, IsNoteOf, IsNoted, IsRoot, IsUnit, unit_text, EndsJournal, IsUnmarked, begins_entry, journal_at, noted_at, journal_text, start_text}
use Rattle.std.proofs.lemmas.List.{append-nil}
use Rattle.df_unit.specs.declared.entry.Entry.{Entry}
use Rattle.df_unit.specs.declared.entry.Noted.{Noted}
use Rattle.df_journal_text.proofs.EntryBacks.{commit-rest, commit_back, commit_text, done_back}
use Rattle.df_journal_text.proofs.StartBacks.{start_back}
use Rattle.df_format.specs.Spelling.{more_spell}
use Rattle.df_value_text.proofs.TagLaws.{digit_first, joined_items}

-- ---- the first byte of an entry

-- what begins with a digit does so with anything behind it
pub more_first : (bytes more : List ℕ) → begins_digit bytes ≡ true → begins_digit (bytes ++ more) ≡ true
more_first [] more digit = absurd cc
more_first (c ∷ cs) more digit = digit

path_first : (path : List ℕ) → IsTag path → begins_digit (path_text path) ≡ true
path_first [] fits = absurd fits
path_first (n ∷ ns) fits = ap begins_digit (joined_items 46 decimal n ns) ∙ digit_first n (more_spell 46 decimal ns) (omega (arith, fits.0))

pub unit_first : (unit : UnitName) → IsUnit unit → begins_digit (unit_text unit) ≡ true
unit_first (Root path) fits = path_first path fits
unit_first (Managed owner sub s) fits =
    let more : List ℕ = 47 ∷ (decimal sub ++ (123 ∷ (tags_text s ++ 125 ∷ []))) in
    let whole : unit_text (Managed owner sub s) ≡ path_text owner ++ more = simp append_assoc in
    ap begins_digit whole ∙ more_first (path_text owner) more (path_first owner fits.0)

-- a digit is none of these bytes
other : (c mark : ℕ) → is_ascii_digit c ≡ true → is_ascii_digit mark ≡ false → eqb c mark ≡ false
other c mark digit none =
    elim (told (eqb c mark)) [
      | inl h ↦ absurd (let no : true ≡ false = sym digit ∙ ap is_ascii_digit (eqb-true c mark h) ∙ none in cc)
      | inr h ↦ h
    ]

digit_unmarked : (bytes : List ℕ) → begins_digit bytes ≡ true → IsUnmarked bytes
digit_unmarked [] digit = absurd cc
digit_unmarked (c ∷ cs) digit = record {
  note = rw (other c 64 digit refl) refl;
  shown = rw (other c 58 digit refl) refl;
  commit = rw (other c 61 digit refl) refl;
  given = rw (other c 60 digit refl) refl;
  deleted = rw (other c 45 digit refl) refl;
  added = rw (other c 43 digit refl) refl;
  part = rw (other c 46 digit refl) refl;
}

digit_no_word : (bytes : List ℕ) → begins_digit bytes ≡ true → begins_with 101 bytes ≡ false
digit_no_word [] digit = refl
digit_no_word (c ∷ cs) digit = other c 101 digit refl

pub digit_some : (bytes : List ℕ) → begins_digit bytes ≡ true → 0 < length bytes
digit_some [] digit = absurd cc
digit_some (c ∷ cs) digit = omega arith

-- ---- entries

-- the line of a call begins with its unit
done_first : (note : Option Label) (actor : UnitName) (call : Call) (r : Reply) (e : Effect) (rest : List ℕ) → IsUnit actor
    → begins_digit (entry_text note (Done actor call r e) ++ rest) ≡ true
done_first note actor call r e rest fits =
    let words : List (List ℕ) = call_words call ++ codes "->" ∷ reply_words r in
    let more : List ℕ = spaced words ++ (10 ∷ (note_text note ++ (reads_text r ++ (effect_text e ++ rest)))) in
    let whole : entry_text note (Done actor call r e) ++ rest ≡ unit_text actor ++ more = simp append_assoc in
    ap begins_digit whole ∙ more_first (unit_text actor) more (unit_first actor fits)

emitted_whole : (commit : Commit) (rest : List ℕ) → entry_text None (Emitted commit) ++ rest ≡ codes "emitted" ++ (commit_text commit ++ rest)
emitted_whole commit rest = commit-rest (codes "emitted") commit rest

abbrev noted_of : Entry → Option Label → Noted
noted_of entry note = record { entry = entry; contamination = note }

entry_back : (entry : Entry) (note : Option Label) (rest : List ℕ) → IsEntry entry → IsNoteOf entry note → IsUnmarked rest
    → noted_at (entry_text note entry ++ rest) ≡ Ok (noted_of entry note, rest)
entry_back (Done actor call r e) None rest fits noted end =
    rw (digit_no_word _ (done_first None actor call r e rest fits.0)) (done_back actor call r e None rest fits.0 fits.1 fits.2 fits.3 tt end)
entry_back (Done actor call r e) (Some label) rest fits noted end =
    rw (digit_no_word _ (done_first (Some label) actor call r e rest fits.0)) (done_back actor call r e (Some label) rest fits.0 fits.1 fits.2 fits.3 noted end)
entry_back (Emitted commit) None rest fits noted end = ap noted_at (emitted_whole commit rest) ∙ rw (commit_back commit rest fits end) refl
entry_back (Emitted commit) (Some label) rest fits noted end = absurd noted

entry_stands : (entry : Entry) (note : Option Label) (rest : List ℕ) → IsEntry entry → begins_entry (entry_text note entry ++ rest) ≡ true
entry_stands (Done actor call r e) note rest fits = ap (λ b. b || begins_with 101 (entry_text note (Done actor call r e) ++ rest))
    (done_first note actor call r e rest fits.0)
entry_stands (Emitted commit) note rest fits = refl

entry_unmarked : (entry : Entry) (note : Option Label) (rest : List ℕ) → IsEntry entry → IsUnmarked (entry_text note entry ++ rest)
entry_unmarked (Done actor call r e) note rest fits = digit_unmarked _ (done_first note actor call r e rest fits.0)
entry_unmarked (Emitted commit) note rest fits = record { note = refl; shown = refl; commit = refl; given = refl; deleted = refl; added = refl; part = refl }

entry_some : (entry : Entry) (note : Option Label) → IsEntry entry → 0 < length (entry_text note entry)
entry_some (Done actor call r e) note fits =
    let text : List ℕ = entry_text note (Done actor call r e) in
    subst (λ (u : List ℕ). 0 < length u) (append-nil text) (digit_some (text ++ []) (done_first note actor call r e [] fits.0))
entry_some (Emitted commit) note fits = omega arith

entries_are : Back begins_entry noted_text IsNoted IsUnmarked noted_at
entries_are = record {
  back = λ n rest fits end. entry_back n.entry n.contamination rest fits.0 fits.1 end;
  stand = λ n rest fits. entry_stands n.entry n.contamination rest fits.0;
  some = λ n fits. entry_some n.entry n.contamination fits.0;
  next = λ n rest fits. entry_unmarked n.entry n.contamination rest fits.0;
}

-- ---- journals

pub journal_back : (roots : List RootStart) (noted : List Noted) (rest : List ℕ) → IsJournal roots noted → EndsJournal rest
    → journal_at (journal_text roots noted ++ rest) ≡ Ok ((roots, noted), rest)
journal_back roots noted rest fits end =
    let entries : List ℕ = flat_map noted_text noted ++ rest in
    let whole : journal_text roots noted ++ rest ≡ codes "defcon-journal 2\n" ++ (start_text roots ++ (codes "run\n" ++ entries)) =
    append_assoc ((codes "defcon-journal 2\n" ++ start_text roots) ++ codes "run\n") (flat_map noted_text noted) rest
    ∙ append_assoc (codes "defcon-journal 2\n" ++ start_text roots) (codes "run\n") entries in
    let e1 = start_back roots (codes "run\n" ++ entries) (recursion_from_All IsRoot roots fits.0.1) refl in
    let e2 = all_back entries_are noted rest (recursion_from_All IsNoted noted fits.1) end.unmarked end.last in
    ap journal_at whole ∙ rw (e1, e2) refl

nothing_ends : EndsJournal []
nothing_ends = record { unmarked = record { note = refl; shown = refl; commit = refl; given = refl; deleted = refl; added = refl; part = refl }; last = refl }

-- what is read back is the only thing that is spelled so
pub one_text : {X : Type 0} (read : List ℕ → Read ℕ X) (a b : List ℕ) (x y : X) → read (a ++ []) ≡ Ok (x, []) → read (b ++ []) ≡ Ok (y, []) → a ≡ b → x ≡ y
one_text {X} read a b x y e f same =
    let first : X × List ℕ = (x, []) in
    ap (λ (q : X × List ℕ). q.0) (ok_is first (y, []) (sym e ∙ ap (λ (u : List ℕ). read (u ++ [])) same ∙ f))

pub journal_is_one : (roots others : List RootStart) (noted more : List Noted) → IsJournal roots noted → IsJournal others more
    → journal_text roots noted ≡ journal_text others more → (roots ≡ others) × (noted ≡ more)
journal_is_one roots others noted more fits fits' same =
    let both = one_text journal_at (journal_text roots noted) (journal_text others more) (roots, noted) (others, more)
    (journal_back roots noted [] fits nothing_ends) (journal_back others more [] fits' nothing_ends) same in
    (ap (λ (q : List RootStart × List Noted). q.0) both, ap (λ (q : List RootStart × List Noted). q.1) both)
