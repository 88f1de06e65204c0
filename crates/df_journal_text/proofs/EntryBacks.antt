-- Entries that are spelled are read back.
use Rattle.df_journal_text.proofs.Names.{◌≡◌, ℕ, ◌<◌, true, false, eqb, eq-eqb, List, [], ◌∷◌, ◌++◌, length, map, Option, Some, None, Ok, codes, refl, sym, ap, ◌∙◌, append_assoc, arith, inl, inr, AllByRecursion, flat_map, recursion_from_All, flat_map-append, Read, Back, all_back, Label, Part, UnitName, Commit, PartRead, Call, Reply, Effect, Done, IsLabel, IsPrivilege, label_text, privilege_text, label_at, value_text, call_words, part_line, spot_line, edit_text, given_text, effect_text, reads_text, call_line, note_text, entry_text, IsCall, IsCommit, IsEdit, IsEffectOf, IsEvent, IsPart, IsPartRead, IsReply, IsSpot, IsUnit, line, spaced, word, event_text, unit_text, IsUnmarked, all_marked_at, call_line_at, commit_at, deleted_at, done_at, done_of, edit_at, effect_at, marked_at, note_at, part_at, part_read_at, shown_at, event_at, begins_pair, line_at, word_at, reply_words}
use Rattle.df_part.specs.declared.edit.Spot.{Spot}
use Rattle.df_unit.specs.declared.commit.Given.{Given}
use Rattle.df_unit.specs.declared.reply.Reply.TheVariants as reply
use Rattle.df_unit.specs.declared.entry.Effect.TheVariants as effect
use Rattle.df_journal_text.proofs.CallBacks.{call_back}
use Rattle.df_journal_text.proofs.NameBacks.{event_word, unit_word}
use Rattle.df_journal_text.proofs.ReplyBacks.{bare_of, reply_back}
use Rattle.df_journal_text.proofs.WordBacks.{line-rest, line_back, ends_spaced, word_back, label_word, name_word, value_word, privileges_back}

-- ---- lines behind a mark

-- words that are read back in front of a line feed
pub record Words {X : Type 0} (words : X → List (List ℕ)) (Fits : X → Type 0) (read : List ℕ → Read ℕ X) : Type 0 where
  pub back : (x : X) (rest : List ℕ) → Fits x → read (spaced (words x) ++ 10 ∷ rest) ≡ Ok (x, 10 ∷ rest)
  pub some : (x : X) → 0 < length (words x)

-- a marked line
abbrev marked_text : {X : Type 0} → ℕ → (X → List (List ℕ)) → X → List ℕ
marked_text mark words x = line (mark ∷ []) (words x)

marked_back : {X : Type 0} {words : X → List (List ℕ)} {Fits : X → Type 0} {read : List ℕ
    → Read ℕ X} (w : Words words Fits read) (mark : ℕ) (x : X) (rest : List ℕ) → Fits x → marked_at mark read (marked_text mark words x ++ rest) ≡ Ok (x, rest)
marked_back {X} {words} {Fits} {read} w mark x rest fits =
    ap (marked_at mark read) (line-rest (mark ∷ []) (words x) rest)
    ∙ rw (eq-eqb mark mark refl) (line_back read (spaced (words x) ++ 10 ∷ rest) x rest (w.back x rest fits))

-- behind a mark stands a space, where there are words
begins_marked : (mark : ℕ) (words : List (List ℕ)) (more : List ℕ) → 0 < length words → begins_pair mark 32 (mark ∷ (spaced words ++ more)) ≡ true
begins_marked mark [] more some = absurd (omega arith)
begins_marked mark (w ∷ ws) more some = rw (eq-eqb mark mark refl) refl

marked_lines : {X : Type 0} {words : X → List (List ℕ)} {Fits : X → Type 0} {read : List ℕ → Read ℕ X} (w : Words words Fits read) (mark : ℕ)
    → Back (begins_pair mark 32) (marked_text mark words) Fits (λ rest. Unit {0}) (marked_at mark read)
marked_lines {X} {words} {Fits} {read} w mark = record {
  back = λ x rest fits next. marked_back w mark x rest fits;
  stand = λ x rest fits. ap (begins_pair mark 32) (line-rest (mark ∷ []) (words x) rest) ∙ begins_marked mark (words x) (10 ∷ rest) (w.some x);
  some = λ x fits. omega arith;
  next = λ x rest fits. tt;
}

all_marked_back : {X : Type 0} {words : X → List (List ℕ)} {Fits : X → Type 0} {read : List ℕ
    → Read ℕ X} (w : Words words Fits read) (mark : ℕ) (xs : List X) (rest : List ℕ) → AllByRecursion Fits xs → begins_pair mark 32 rest ≡ false
    → all_marked_at mark read (flat_map (marked_text mark words) xs ++ rest) ≡ Ok (xs, rest)
all_marked_back w mark xs rest fits end = all_back (marked_lines w mark) xs rest fits tt end

-- ---- parts, spots and what a read shows

abbrev part_words : Part → List (List ℕ)
part_words part = label_text part.label ∷ part.name ∷ value_text part.value ∷ map privilege_text part.privileges

parts_are : Words part_words IsPart part_at
parts_are = record {
  back = λ part rest f.
      let e1 = word_back label_word part.label (part.name ∷ value_text part.value ∷ map privilege_text part.privileges) (10 ∷ rest) f.1 (inr refl) in
      let e2 = word_back name_word part.name (value_text part.value ∷ map privilege_text part.privileges) (10 ∷ rest) f.0 (inr refl) in
      let e3 = word_back value_word part.value (map privilege_text part.privileges) (10 ∷ rest) f.2 (inr refl) in
      let e4 = privileges_back part.privileges (10 ∷ rest) (recursion_from_All IsPrivilege part.privileges f.3.0) f.3.1 (inr refl) refl in
      rw (e1, e2, e3, e4) refl;
  some = λ part. omega arith;
}

abbrev part_read_words : PartRead → List (List ℕ)
part_read_words part = label_text part.label ∷ value_text part.value ∷ map privilege_text part.privileges

parts_read_are : Words part_read_words IsPartRead part_read_at
parts_read_are = record {
  back = λ part rest f.
      let e1 = word_back label_word part.label (value_text part.value ∷ map privilege_text part.privileges) (10 ∷ rest) f.0 (inr refl) in
      let e2 = word_back value_word part.value (map privilege_text part.privileges) (10 ∷ rest) f.1 (inr refl) in
      let e3 = privileges_back part.privileges (10 ∷ rest) (recursion_from_All IsPrivilege part.privileges f.2.0) f.2.1 (inr refl) refl in
      rw (e1, e2, e3) refl;
  some = λ part. omega arith;
}

abbrev spot_words : Spot → List (List ℕ)
spot_words spot = label_text spot.label ∷ spot.name ∷ []

spots_are : Words spot_words IsSpot deleted_at
spots_are = record {
  back = λ spot rest f.
      let e1 = word_back label_word spot.label (spot.name ∷ []) (10 ∷ rest) f.1 (inr refl) in
      let e2 = word_back name_word spot.name [] (10 ∷ rest) f.0 (inr refl) in
      rw (e1, e2) refl;
  some = λ spot. omega arith;
}

-- ---- commits

-- in front of added parts stands no deleted spot
not_deleted : (parts : List Part) (rest : List ℕ) → IsUnmarked rest → begins_pair 45 32 (flat_map (part_line (43 ∷ [])) parts ++ rest) ≡ false
not_deleted [] rest end = end.deleted
not_deleted (part ∷ parts) rest end = refl

edit_back : (edit : List Spot × List Part) (rest : List ℕ) → IsEdit edit → IsUnmarked rest → edit_at (edit_text edit ++ rest) ≡ Ok (edit, rest)
edit_back edit rest fits end =
    let added : List ℕ = flat_map (part_line (43 ∷ [])) edit.1 ++ rest in
    let e1 : all_marked_at 45 deleted_at (flat_map spot_line edit.0 ++ added) ≡ Ok (edit.0, added) = all_marked_back spots_are 45 edit.0 added
    (recursion_from_All IsSpot edit.0 fits.0) (not_deleted edit.1 rest end) in
    let e2 : all_marked_at 43 part_at added ≡ Ok (edit.1, rest) = all_marked_back parts_are 43 edit.1 rest (recursion_from_All IsPart edit.1 fits.1)
    end.added in
    ap edit_at (append_assoc (flat_map spot_line edit.0) (flat_map (part_line (43 ∷ [])) edit.1) rest) ∙ rw (e1, e2) refl

event_line_back : (event : _) (rest : List ℕ) → IsEvent event → line_at (word_at event_at) (spaced (event_text event ∷ []) ++ 10 ∷ rest) ≡ Ok (event, rest)
event_line_back event rest fits = line_back (word_at event_at) (spaced (event_text event ∷ []) ++ 10 ∷ rest) event rest
    (word_back event_word event [] (10 ∷ rest) fits (inr refl))

-- what stands behind a commit's first word
abbrev pub commit_text : Commit → List ℕ
commit_text commit = spaced (event_text commit.event ∷ []) ++ (10 ∷ edit_text commit.edit)

pub commit_back : (commit : Commit) (rest : List ℕ) → IsCommit commit → IsUnmarked rest → commit_at (commit_text commit ++ rest) ≡ Ok (commit, rest)
commit_back commit rest fits end =
    let e1 = event_line_back commit.event (edit_text commit.edit ++ rest) fits.0 in
    let e2 = edit_back commit.edit rest fits.1 end in
    ap commit_at (append_assoc (spaced (event_text commit.event ∷ [])) (10 ∷ edit_text commit.edit) rest) ∙ rw (e1, e2) refl

-- a first word, and a commit behind it
pub commit-rest : (first : List ℕ) (commit : Commit) (rest : List ℕ)
    → (line first (event_text commit.event ∷ []) ++ edit_text commit.edit) ++ rest ≡ first ++ (commit_text commit ++ rest)
commit-rest first commit rest = simp append_assoc

-- ---- what stands below a call's line

effect_back : (e : Effect) (r : Reply) (rest : List ℕ) → IsEffectOf e r → IsUnmarked rest → effect_at r (effect_text e ++ rest) ≡ Ok (e, rest)
effect_back effect.Nothing r rest fits end = rw (end.commit, end.given) refl
effect_back (effect.Commit commit) r rest fits end =
    let e1 = commit_back commit rest fits end in
    ap (effect_at r) (commit-rest (61 ∷ []) commit rest) ∙ rw e1 refl
effect_back (effect.Given given) (reply.Event h sub) rest fits end =
    let parts : List ℕ = flat_map (part_line (46 ∷ [])) given.parts ++ rest in
    let words : List (List ℕ) = event_text given.event ∷ [] in
    let whole : given_text given ++ rest ≡ 60 ∷ (spaced words ++ 10 ∷ parts) = append_assoc (line (60 ∷ []) words)
    (flat_map (part_line (46 ∷ [])) given.parts) rest ∙ line-rest (60 ∷ []) words parts in
    let e1 = event_line_back given.event parts fits.1 in
    let e2 = all_marked_back parts_are 46 given.parts rest (recursion_from_All IsPart given.parts fits.2) end.part in
    let made : Given = record { event = given.event; sub = sub; parts = given.parts } in
    let same : made ≡ given = ap (λ (n : ℕ). record { event = given.event; sub = n; parts = given.parts }) (sym fits.0) in
    ap (effect_at (reply.Event h sub)) whole ∙ rw (e1, e2) (ap (λ (g : Given). Ok (effect.Given g, rest)) same)
effect_back (effect.Given given) _ rest fits end = absurd fits

-- the reply is that of the line, with what a read shows
shown_back : (r : Reply) (rest : List ℕ) → IsReply r → begins_pair 58 32 rest ≡ false → shown_at (bare_of r) (reads_text r ++ rest) ≡ Ok (r, rest)
shown_back (reply.Parts parts) rest fits end = let e = all_marked_back parts_read_are 58 parts rest (recursion_from_All IsPartRead parts fits) end in rw e refl
shown_back _ rest fits end = refl

abbrev pub IsNote : Option Label → Type 0
IsNote None = Unit {0}
IsNote (Some label) = IsLabel label

note_back : (note : Option Label) (rest : List ℕ) → IsNote note → begins_pair 64 32 rest ≡ false → note_at (note_text note ++ rest) ≡ Ok (note, rest)
note_back None rest fits end = rw end refl
note_back (Some label) rest fits end =
    let words : List (List ℕ) = label_text label ∷ [] in
    let e = line_back (word_at label_at) (spaced words ++ 10 ∷ rest) label rest (word_back label_word label [] (10 ∷ rest) fits (inr refl)) in
    ap note_at (line-rest (64 ∷ []) words rest) ∙ rw e refl

-- an effect's text begins with none of the marks before it
effect_begins : (e : Effect) (rest : List ℕ) (mark : ℕ) → eqb 61 mark ≡ false → eqb 60 mark ≡ false → begins_pair mark 32 rest ≡ false
    → begins_pair mark 32 (effect_text e ++ rest) ≡ false
effect_begins effect.Nothing rest mark a b end = end
effect_begins (effect.Commit commit) rest mark a b end = rw a refl
effect_begins (effect.Given given) rest mark a b end = rw b refl

reads_begin : (r : Reply) (rest : List ℕ) → begins_pair 64 32 rest ≡ false → begins_pair 64 32 (reads_text r ++ rest) ≡ false
reads_begin (reply.Parts []) rest end = end
reads_begin (reply.Parts (part ∷ parts)) rest end = refl
reads_begin _ rest end = end

-- ---- a call's line

call_line_back : (actor : UnitName) (call : Call) (r : Reply) (rest : List ℕ) → IsUnit actor → IsCall call → IsReply r
    → call_line_at (call_line actor call r ++ rest) ≡ Ok ((actor, (call, bare_of r)), rest)
call_line_back actor call r rest fits_actor fits_call fits_reply =
    let behind : List ℕ = spaced (reply_words r) ++ 10 ∷ rest in
    let arrow : List ℕ = 32 ∷ 45 ∷ 62 ∷ behind in
    let words : spaced (call_words call ++ codes "->" ∷ reply_words r) ++ 10 ∷ rest ≡ spaced (call_words call) ++ arrow =
    ap (λ (u : List ℕ). u ++ 10 ∷ rest) (flat_map-append word (call_words call) (codes "->" ∷ reply_words r))
    ∙ append_assoc (spaced (call_words call)) (spaced (codes "->" ∷ reply_words r)) (10 ∷ rest) in
    let whole : call_line actor call r ++ rest ≡ unit_text actor ++ (spaced (call_words call) ++ arrow) =
    line-rest (unit_text actor) (call_words call ++ codes "->" ∷ reply_words r) rest ∙ ap (λ (u : List ℕ). unit_text actor ++ u) words in
    let e1 = unit_word.back actor (spaced (call_words call) ++ arrow) fits_actor (ends_spaced (call_words call) arrow (inl refl)) in
    let e2 = call_back call arrow fits_call (inl refl) refl in
    let e3 = reply_back r (10 ∷ rest) fits_reply (inr refl) in
    ap call_line_at whole ∙ rw (e1, e2, e3) refl

-- ---- entries

pub done_back : (actor : UnitName) (call : Call) (r : Reply) (e : Effect) (note : Option Label) (rest : List ℕ) → IsUnit actor → IsCall call → IsReply r
    → IsEffectOf e r → IsNote note → IsUnmarked rest
    → done_at (entry_text note (Done actor call r e) ++ rest) ≡ Ok (done_of actor call note r e, rest)
done_back actor call r e note rest fits_actor fits_call fits_reply fits_effect fits_note end =
    let behind_reads : List ℕ = effect_text e ++ rest in
    let behind_note : List ℕ = reads_text r ++ behind_reads in
    let behind_line : List ℕ = note_text note ++ behind_note in
    let whole : entry_text note (Done actor call r e) ++ rest ≡ call_line actor call r ++ behind_line = simp append_assoc in
    let e1 = call_line_back actor call r behind_line fits_actor fits_call fits_reply in
    let e2 = note_back note behind_note fits_note (reads_begin r behind_reads (effect_begins e rest 64 refl refl end.note)) in
    let e3 = shown_back r behind_reads fits_reply (effect_begins e rest 58 refl refl end.shown) in
    let e4 = effect_back e r rest fits_effect end in
    ap done_at whole ∙ rw (e1, e2, e3, e4) refl
