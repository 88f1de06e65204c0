-- Entries and the lines below them, put together, and what stands at their head.
use Rattle.df_journal_file.proofs.Names.{event_line, ChangesSome, EditsSome, EndsFile, HasNote, ShowsSome, bare_of, IsNoteBy, IsShownBy, IsSomeCommit, IsSomeEffectOf, IsWholeBy, commit_lines, AddsFrom, CommitFrom, DoneFrom, EditFrom, EffectFrom, EntriesFrom, GivenFrom, NoteFrom, NotesNone, ShownFrom, ShowsNone, IsHere, more_first, unit_first, call_words, call_line, effect_text, entry_text, note_text, noted_text, reads_text, spot_line, IsAnswer, IsCalled, IsCommit, IsEffectOf, IsEntry, IsNoteOf, IsPartRead, IsReply, spaced, unit_text, reply_words, Label, Call, Entry, Done, Emitted, Noted, UnitName, PartRead, Reply, IsLabel, begins_digit, Bool, List, None, Option, Some, [], ap, append_assoc, arith, codes, false, inl, inr, length, refl, subst, sym, true, ℕ, ◌++◌, ◌+◌, ◌↔◌, ◌∙◌, ◌∷◌, ◌≡◌, ◌⊎◌, All-cons, All-head, All-nil, All-tail, All, flat_map}
use Rattle.df_unit.specs.declared.commit.Given.{Given}
use Rattle.df_unit.specs.declared.entry.Effect.TheVariants as effect
use Rattle.df_unit.specs.declared.reply.Reply.TheVariants as reply
use Rattle.df_unit.specs.declared.commit.Commit.{Commit}
use Rattle.df_unit.specs.declared.entry.Effect.{Effect}
use Rattle.df_journal_file.proofs.Feeds.{CallTold, told_line}

-- ---- entries of units

-- the line is the same with what a read shows
bare_line : (actor : UnitName) (call : Call) (r : Reply) → call_line actor call (bare_of r) ≡ call_line actor call r
bare_line actor call (reply.Parts parts) = refl
bare_line actor call _ = refl

-- so is what tells whether the unit exists
bare_unit : (r : Reply) → (bare_of r ≡ reply.NoSuchUnit) ↔ (r ≡ reply.NoSuchUnit)
bare_unit (reply.Parts parts) = (λ e. absurd cc, λ e. absurd cc)
bare_unit _ = (λ e. e, λ e. e)

-- what is noted of the reply on the line is noted of the whole
has_note : (r : Reply) (note : Option Label) → IsNoteBy true (bare_of r) note → HasNote r note
has_note r (Some label) n = λ none. n.1 ((bare_unit r).1 none)
has_note r None n = (bare_unit r).0 n

-- and fits the entry
fits_note : (actor : UnitName) (call : Call) (r : Reply) (effect : Effect) (bare : Reply) (note : Option Label) → IsNoteBy true bare note
    → IsNoteOf (Done actor call r effect) note
fits_note actor call r effect bare (Some label) n = n.0
fits_note actor call r effect bare None n = tt

-- the entry of a unit
abbrev pub done_of : CallTold → Reply → Effect → Option Label → Noted
done_of c r effect note = record { entry = Done c.0 c.1 r effect; contamination = note }

-- texts behind one another
grouped : (l n r e below shown change tail : List ℕ) → below ≡ n ++ shown → shown ≡ r ++ change → change ≡ e ++ tail
    → l ++ below ≡ (((l ++ n) ++ r) ++ e) ++ tail
grouped l n r e below shown change tail a b c = simp (a, b, c, append_assoc)

-- the lines of an entry behind one another
pub done_spelled : (c : CallTold) (r : Reply) (note : Option Label) (effect : Effect) (s below shown change tail : List ℕ)
    → s ≡ told_line c ++ below → below ≡ note_text note ++ shown → shown ≡ reads_text r ++ change → change ≡ effect_text effect ++ tail
    → IsShownBy c.2 r → s ≡ noted_text (done_of c r effect note) ++ tail
done_spelled c r note effect s below shown change tail one n m e f =
    one ∙ ap (λ (u : List ℕ). u ++ below) (ap (call_line c.0 c.1) f.2 ∙ bare_line c.0 c.1 r)
    ∙ grouped (call_line c.0 c.1 r) (note_text note) (reads_text r) (effect_text effect) below shown change tail n m e

-- it is whole
pub done_whole : (has : Bool) (c : CallTold) (r : Reply) (note : Option Label) (effect : Effect) → IsCalled c → IsNoteBy has c.2 note
    → IsShownBy c.2 r → IsSomeEffectOf r effect → IsWholeBy has (done_of c r effect note)
done_whole true c r note effect f n s e =
    let noted = has_note r note (subst (λ (bare : Reply). IsNoteBy true bare note) s.2 n) in
    (((f.0, f.1, s.0, e.0), fits_note c.0 c.1 r effect c.2 note n), (s.1, e.1), noted)
done_whole false c r contamination effect f n s e = (((f.0, f.1, s.0, e.0), (s.1, e.1)), n)

-- such an entry that was read
pub done_read : (has : Bool) {bytes : List ℕ} {at below shown change end : ℕ} {c : CallTold} {r : Reply} {note : Option Label} {effect : Effect}
    → IsHere told_line IsCalled bytes at c below → IsHere note_text (IsNoteBy has c.2) bytes below note shown
    → IsHere reads_text (IsShownBy c.2) bytes shown r change → IsHere effect_text (IsSomeEffectOf r) bytes change effect end
    → IsHere noted_text (IsWholeBy has) bytes at (done_of c r effect note) end
done_read has {bytes} {at} {below} {shown} {change} {end} {c} {r} {note} {effect} one n s e = record {
  fits = done_whole has c r note effect one.fits n.fits s.fits e.fits;
  onward = omega (arith, one.onward, n.onward, s.onward, e.onward);
  inside = e.inside;
  parts = done_spelled c r note effect _ _ _ _ _ one.parts n.parts s.parts e.parts s.fits;
}

-- an entry of what the world emitted
pub emitted_whole : (has : Bool) (commit : Commit) → IsSomeCommit commit → IsWholeBy has (record { entry = Emitted commit; contamination = None })
emitted_whole true commit f = ((f.0, tt), f.1, refl)
emitted_whole false commit f = ((f.0, f.1), refl)

-- ---- what stands below a call's line

-- nothing is noted where no notes stand, or of a unit that doesn't exist
pub no_note : (has : Bool) (r : Reply) → NotesNone has r → IsNoteBy has r None
no_note true r (inl h) = absurd cc
no_note true r (inr h) = h
no_note false r h = refl

-- a contamination is noted of a unit that does
pub some_note : (has : Bool) (r : Reply) (label : Label) → ¬ NotesNone has r → IsLabel label → IsNoteBy has r (Some label)
some_note true r label some fits = (fits, λ none. some (inr none))
some_note false r label some fits = absurd (some (inl refl))

-- the reply `parts` shows nothing on its line
pub bare_parts : (r : Reply) (parts : List PartRead) → IsAnswer r → r ≡ reply.Parts parts → r ≡ reply.Parts []
bare_parts r parts f is =
    let bare : IsAnswer (reply.Parts parts) = subst IsAnswer is f in
    is ∙ ap (λ (ps : List PartRead). reply.Parts ps) bare.1

-- each other reply stands on its line alone
pub alone : (r : Reply) → ShowsNone r → ShowsSome r × (reads_text r ≡ []) × (r ≡ bare_of r)
alone (reply.Parts parts) none = absurd (none parts refl)
alone _ none = (tt, refl, refl)

-- a call's line begins with a digit
pub called_begins : (c : CallTold) (rest : List ℕ) → IsCalled c → begins_digit (told_line c ++ rest) ≡ true
called_begins c rest fits =
    more_first (told_line c) rest (more_first (unit_text c.0 ++ spaced (call_words c.1 ++ codes "->" ∷ reply_words c.2)) (10 ∷ [])
    (more_first (unit_text c.0) _ (unit_first c.0 fits.0)))

-- ---- replies

-- a reply shows parts, or none
pub shows_or_not : (r : Reply) → ((parts : List PartRead) × (r ≡ reply.Parts parts)) ⊎ ShowsNone r
shows_or_not (reply.Parts parts) = inl (parts, refl)
shows_or_not _ = inr (λ parts e. cc)

-- a reply that fits does so as its line tells it
bare_fits : (r : Reply) → IsReply r → IsAnswer (bare_of r)
bare_fits (reply.Parts parts) f = (All-nil IsPartRead, refl)
bare_fits _ f = (f, tt)

-- what is noted of the reply is noted of its line's
note_by : (actor : UnitName) (call : Call) (r : Reply) (e : Effect) (note : Option Label) → HasNote r note → IsNoteOf (Done actor call r e) note
    → IsNoteBy true (bare_of r) note
note_by actor call r e (Some label) h f = (f, λ none. h ((bare_unit r).0 none))
note_by actor call r e None h f = (bare_unit r).1 h

-- ---- from entries

-- the lines of a commit
commit_from : (has : Bool) (mark : List ℕ) (commit : Commit) (tail : List ℕ) → IsCommit commit → EditsSome commit.edit → EntriesFrom has tail
    → CommitFrom has mark (commit_lines mark commit ++ tail)
commit_from has mark commit tail f some t =
    let adds : AddsFrom has (0 + length commit.edit.0) _ = (commit.edit.1, tail, f.1.1, (omega (arith, some), t), refl) in
    let edit : EditFrom has 0 _ = (commit.edit.0, _, f.1.0, adds, append_assoc (flat_map spot_line commit.edit.0) _ tail) in
    (commit.event, _, f.0, edit, append_assoc (event_line mark commit.event) _ tail)

-- those of an effect
effect_from : (has : Bool) (r : Reply) (e : Effect) (tail : List ℕ) → IsEffectOf e r → ChangesSome e → EntriesFrom has tail
    → EffectFrom has r (effect_text e ++ tail)
effect_from has r effect.Nothing tail f some t = inl t
effect_from has r (effect.Commit commit) tail f some t = inr (inl (commit_from has (codes "=") commit tail f some t))
effect_from has (reply.Event h sub) (effect.Given given) tail f some t =
    let below : GivenFrom has 0 _ = (given.parts, tail, f.2, (omega (arith, some), t), refl) in
    inr (inr ((h, sub, refl), (given.event, _, f.1, below, append_assoc (event_line (codes "<") given.event) _ tail)))
effect_from has _ (effect.Given given) tail f some t = absurd f

-- which parts are shown makes no effect another
pub effect_parts : (has : Bool) (ps qs : List PartRead) (s : List ℕ) → EffectFrom has (reply.Parts ps) s → EffectFrom has (reply.Parts qs) s
effect_parts has ps qs s (inl t) = inl t
effect_parts has ps qs s (inr (inl t)) = inr (inl t)
effect_parts has ps qs s (inr (inr t)) = absurd (let no = t.0.2 in cc)

-- those of what a read shows
shown_from : (has : Bool) (r : Reply) (rest : List ℕ) → IsReply r → ShowsSome r → EffectFrom has r rest → ShownFrom has (bare_of r) (reads_text r ++ rest)
shown_from has (reply.Parts parts) rest f some t = inr (refl, (parts, rest, f, (omega (arith, some), effect_parts has parts [] rest t), refl))
shown_from has _ rest f some t = inl ((λ parts e. cc), t)

-- the line of a note
note_from : (has : Bool) (bare : Reply) (note : Option Label) (rest : List ℕ) → IsNoteBy has bare note → ShownFrom has bare rest
    → NoteFrom has bare (note_text note ++ rest)
note_from true bare (Some label) rest n t = inr (λ none. elim none [ inl e ↦ cc | inr is ↦ n.1 is ], (label, rest, n.0, t, refl))
note_from true bare None rest n t = inl (inr n, t)
note_from false bare (Some label) rest n t = absurd cc
note_from false bare None rest n t = inl (inl refl, t)

-- an end, what the world emitted, or the entry of a unit
abbrev pub AtHead : Bool → List ℕ → Type 0
AtHead has s = (EndsFile s ⊎ CommitFrom has (codes "emitted") s) ⊎ DoneFrom has s

-- the lines of the entry of a unit
unit_head : (has : Bool) (actor : UnitName) (call : Call) (r : Reply) (e : Effect) (note : Option Label) (tail : List ℕ)
    → IsEntry (Done actor call r e) → ShowsSome r → ChangesSome e → IsNoteBy has (bare_of r) note → EntriesFrom has tail
    → DoneFrom has (entry_text note (Done actor call r e) ++ tail)
unit_head has actor call r e note tail f shows changes noted t =
    let c : CallTold = (actor, call, bare_of r) in
    let behind = note_from has (bare_of r) note _ noted (shown_from has r _ f.2 shows (effect_from has r e tail f.3 changes t)) in
    (c, _, (f.0, f.1, bare_fits r f.2), behind, sym (done_spelled c r note e _ _ _ _ tail refl refl refl refl (f.2, shows, refl)))

-- those of any entry
entry_head : (has : Bool) (entry : Entry) (note : Option Label) (tail : List ℕ) → IsWholeBy has (record { entry = entry; contamination = note })
    → EntriesFrom has tail → AtHead has (entry_text note entry ++ tail)
entry_head true (Done actor call r e) note tail w t =
    inr (unit_head true actor call r e note tail w.0.0 w.1.0 w.1.1 (note_by actor call r e note w.2 w.0.1) t)
entry_head true (Emitted commit) (Some label) tail w t = absurd w.0.1
entry_head true (Emitted commit) None tail w t = inl (inr (commit_from true (codes "emitted") commit tail w.0.0 w.1 t))
entry_head false (Done actor call r e) note tail w t = inr (unit_head false actor call r e note tail w.0.0 w.0.1.0 w.0.1.1 w.1 t)
entry_head false (Emitted commit) (Some label) tail w t = absurd (let no = w.1 in cc)
entry_head false (Emitted commit) None tail w t = inl (inr (commit_from false (codes "emitted") commit tail w.0.0 w.0.1 t))

-- entries are none, or one stands at the head
pub opened : (has : Bool) (s : List ℕ) → EntriesFrom has s → AtHead has s
opened has s t = cut t.0 t.1 t.2 t.3 t.4
  where
    cut : (noted : List Noted) (end : List ℕ) → All (IsWholeBy has) noted → EndsFile end → s ≡ flat_map noted_text noted ++ end → AtHead has s
    cut [] end f ends e = inl (inl (subst EndsFile (sym e) ends))
    cut (n ∷ ns) end f ends e =
        let tail : EntriesFrom has (flat_map noted_text ns ++ end) = (ns, end, All-tail (IsWholeBy has) n ns f, ends, refl) in
        let head = entry_head has n.entry n.contamination _ (All-head (IsWholeBy has) n ns f) tail in
        subst (AtHead has) (sym (e ∙ append_assoc (noted_text n) (flat_map noted_text ns) end)) head

-- ---- to entries

-- what was split off a text
abbrev pub Split : {X : Type 0} → (X → List ℕ) → (X → Type 0) → (X → List ℕ → Type 0) → List ℕ → Type 0
Split {X} text Fits Rest s = (x : X) × (rest : List ℕ) × Fits x × Rest x rest × (s ≡ text x ++ rest)

-- a commit
commit_to : (has : Bool) (mark s : List ℕ) → CommitFrom has mark s → Split (commit_lines mark) IsSomeCommit (λ _. EntriesFrom has) s
commit_to has mark s t =
    let edit = t.3.4 ∙ ap (λ (u : List ℕ). flat_map spot_line t.3.0 ++ u) t.3.3.4 ∙ sym (append_assoc (flat_map spot_line t.3.0) _ _) in
    let whole = t.4 ∙ ap (λ (u : List ℕ). event_line mark t.0 ++ u) edit ∙ sym (append_assoc (event_line mark t.0) _ _) in
    (record { event = t.0; edit = (t.3.0, t.3.3.0) }, _, ((t.2, (t.3.2, t.3.3.2)), omega (arith, t.3.3.3.0)), t.3.3.3.1, whole)

-- an effect
effect_to : (has : Bool) (r : Reply) (s : List ℕ) → EffectFrom has r s → Split effect_text (IsSomeEffectOf r) (λ _. EntriesFrom has) s
effect_to has r s (inl t) = (effect.Nothing, s, (tt, tt), t, refl)
effect_to has r s (inr (inl t)) = let c = commit_to has (codes "=") s t in (effect.Commit c.0, c.1, c.2, c.3, c.4)
effect_to has r s (inr (inr ((h, sub, is), t))) =
    let given : Given = record { event = t.0; sub = sub; parts = t.3.0 } in
    let fits : IsSomeEffectOf (reply.Event h sub) (effect.Given given) = ((refl, t.2, t.3.2), omega (arith, t.3.3.0)) in
    let whole = t.4 ∙ ap (λ (u : List ℕ). event_line (codes "<") t.0 ++ u) t.3.4 ∙ sym (append_assoc (event_line (codes "<") t.0) _ _) in
    (effect.Given given, _, subst (λ (q : Reply). IsSomeEffectOf q (effect.Given given)) (sym is) fits, t.3.3.1, whole)

-- what a read shows
shown_to : (has : Bool) (bare : Reply) (s : List ℕ) → IsAnswer bare → ShownFrom has bare s → Split reads_text (IsShownBy bare) (EffectFrom has) s
shown_to has bare s f (inl (none, t)) =
    let a = alone bare none in
    (bare, s, (f.0, a.0, a.2), t, ap (λ (u : List ℕ). u ++ s) (sym a.1))
shown_to has bare s f (inr (b, m)) = (reply.Parts m.0, m.1, (m.2, omega (arith, m.3.0), b), effect_parts has [] m.0 m.1 m.3.1, m.4)

-- a note
note_to : (has : Bool) (bare : Reply) (s : List ℕ) → NoteFrom has bare s → Split note_text (IsNoteBy has bare) (λ _. ShownFrom has bare) s
note_to has bare s (inl (none, t)) = (None, s, no_note has bare none, t, refl)
note_to has bare s (inr (some, t)) = (Some t.0, t.1, some_note has bare t.0 some t.2, t.3, t.4)

-- one more entry
cons_entry : (has : Bool) (n : Noted) (s tail : List ℕ) → IsWholeBy has n → EntriesFrom has tail → s ≡ noted_text n ++ tail → EntriesFrom has s
cons_entry has n s tail w t e =
    (n ∷ t.0, t.1, All-cons (IsWholeBy has) n t.0 w t.2, t.3, e ∙ ap (λ (u : List ℕ). noted_text n ++ u) t.4 ∙ sym (append_assoc (noted_text n) _ t.1))

-- the entry of a unit
pub done_to : (has : Bool) (s : List ℕ) → DoneFrom has s → EntriesFrom has s
done_to has s d =
    let c = d.0 in
    let n = note_to has c.2 d.1 d.3 in
    let m = shown_to has c.2 n.1 d.2.2 n.3 in
    let e = effect_to has m.0 m.1 m.3 in
    cons_entry has (done_of c m.0 e.0 n.0) s e.1 (done_whole has c m.0 n.0 e.0 d.2 n.2 m.2 e.2) e.3
    (done_spelled c m.0 n.0 e.0 s d.1 n.1 m.1 e.1 d.4 n.4 m.4 e.4 m.2)

-- that of what the world emitted
pub emitted_to : (has : Bool) (s : List ℕ) → CommitFrom has (codes "emitted") s → EntriesFrom has s
emitted_to has s t =
    let c = commit_to has (codes "emitted") s t in
    cons_entry has (record { entry = Emitted c.0; contamination = None }) s c.1 (emitted_whole has c.0 c.2) c.3 c.4

-- an end alone
pub none_left : (has : Bool) (s : List ℕ) → EndsFile s → EntriesFrom has s
none_left has s e = ([], s, All-nil (IsWholeBy has), e, refl)
