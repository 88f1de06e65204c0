-- A journal that is gone over entry by entry, as far as it has come.
use Rattle.df_audit.proofs.Names.{◌≡◌, ℕ, ◌+◌, ◌<◌, ◌^◌, Bool, true, false, List, [], ◌∷◌, ◌++◌, ◌-◌, Option, None, Some, Result, Ok, Err, IfOk, OnOk, length, map, reverse, refl, ap, sym, subst, ◌∙◌, arith, append_assoc, append-nil, length-append, flat_map, length-map, map-append, reverse-append, Label, State, firsts, AgreesWith, Tables, Legal, purge, rows, RootStart, Entry, Noted, contamination_of, noted, noted_in, past_of, noted_past, right_notes, noted_text, head_text, CursorState, HasPassed, First, IsJournalOf, Journal, Second, journal_by, Right, IsCheckOf, valid_text, IsPurgeOf, IsRightJournal, IsUpgradeOf, OfJournal, past_in, roots_in, ComesTo, EndsRight, HasComeTo, IsMade, IsSoFar, IsJudged, PassesOne, TakesKept, TakesNote, TakesOne, front_of, wanted_of, wanted_text, Wanted}
use Rattle.std.proofs.lemmas.Grind.{flat_map-append}
use Rattle.df_memory.specs.declared.NoMemory.{NoMemory}
use Rattle.df_replay.specs.Replay.{Compares, entry_for, replayed}
use Rattle.df_replay.specs.declared.repeats.Compared.{Compared}
use Rattle.df_replay.specs.declared.repeats.Compared.TheVariants.{Other, Same}
use Rattle.df_replay.proofs.Right.{is_right}
use Rattle.df_purge.specs.code.Left.{left_noted}
use Rattle.df_purge.proofs.ByNotes.{purged_by_notes}
use Rattle.df_audit.specs.declared.pass.Passed.{Passed}
use Rattle.df_audit.specs.declared.pass.Passed.TheVariants as found
use Rattle.df_audit.specs.declared.pass.Wanted.TheVariants as wanted
use Rattle.df_audit.proofs.Sound.{legal_is_sound, legal_separates}
use Rattle.df_audit.proofs.Told.{legal_in}

abbrev bare : Noted → Entry
bare n = n.entry

-- an entry with this contamination
abbrev with_note : Entry → Option Label → Noted
with_note e contamination = record { entry = e; contamination = contamination }

past_push : (read : List Noted) (kept : Noted) → past_of (read ++ kept ∷ []) ≡ kept.entry ∷ past_of read
past_push read kept = ap reverse (map-append bare read (kept ∷ [])) ∙ reverse-append (map bare read) (kept.entry ∷ [])

-- ---- one more entry

module _ (roots : List RootStart) (read : List Noted) (kept : Noted) where
  right_more : (has : Bool) → IsRightJournal (journal_by has roots read) → entry_for (roots, past_of read) kept.entry ≡ kept.entry
      → (has ≡ true → noted_in (roots, past_of read) kept.entry ≡ kept) → IsRightJournal (journal_by has roots (read ++ kept ∷ []))
  right_more true right same note =
      record {
        legal = subst (Legal rows (firsts roots)) (sym (past_push read kept)) (right.legal, is_right roots (past_of read) kept.entry same);
        noted =
            ap (λ (ns : List Noted). ns ++ kept ∷ []) right.noted
            ∙ ap (λ (n : Noted). noted roots (past_of read) ++ n ∷ []) (sym (note refl))
            ∙ ap (noted roots) (sym (past_push read kept));
      }
  right_more false right same note =
      subst (Legal rows (firsts roots)) (sym (past_push read kept)) (right, is_right roots (past_of read) kept.entry same)

  module _ (old new : CursorState) (before after : Tables) (come : HasComeTo roots read old before) where
    pub passes_one : (given : Noted) (contamination : Option Label) → HasPassed roots (read ++ kept ∷ []) new
        → AgreesWith (replayed (roots, past_of read) kept.entry) after → entry_for (roots, past_of read) kept.entry ≡ kept.entry
        → contamination ≡ contamination_of (roots, past_of read) kept.entry
        → given ≡ with_note kept.entry contamination → (new.has_notes ≡ true → contamination ≡ kept.contamination)
        → new.has_notes ≡ old.has_notes → old.place < new.place → new.bytes ≡ old.bytes → PassesOne roots read given old new after
    passes_one given contamination passed made same told is note version further bytes =
        record {
          kept = kept;
          come = record {
            passed = passed;
            made = subst (λ (p : List Entry). AgreesWith (roots, p) after) (ap (λ (e : Entry). e ∷ past_of read) same ∙ sym (past_push read kept)) made;
            right =
                subst (λ (has : Bool). IsRightJournal (journal_by has roots (read ++ kept ∷ []))) (sym version)
                (right_more old.has_notes come.right same (λ notes. ap (with_note kept.entry) (sym told ∙ note (version ∙ notes))));
          };
          is = is ∙ ap (with_note kept.entry) told;
          further = further;
          bytes = bytes;
        }

    -- a kept entry that is the one that the rules give
    pub comes_to : (passed : Passed) (contamination : Option Label) → HasPassed roots (read ++ kept ∷ []) new
        → AgreesWith (replayed (roots, past_of read) kept.entry) after → Compares (roots, past_of read) kept.entry (Same contamination)
        → TakesNote new.has_notes kept contamination passed → new.has_notes ≡ old.has_notes → old.place < new.place → new.bytes ≡ old.bytes
        → ComesTo roots read old passed new after
    comes_to (found.Right given) contamination passed made same takes version further bytes =
        passes_one given contamination passed made same.0 same.1 takes.0 takes.1 version further bytes
    comes_to found.End contamination passed made same takes version further bytes = absurd takes
    comes_to found.Other contamination passed made same takes version further bytes = tt

    -- a kept entry that passes, or doesn't
    pub comes_kept : (passed : Passed) → HasPassed roots (read ++ kept ∷ []) new → TakesKept (roots, past_of read) new.has_notes kept passed after
        → new.has_notes ≡ old.has_notes → old.place < new.place → new.bytes ≡ old.bytes → ComesTo roots read old passed new after
    comes_kept (found.Right given) passed taken version further bytes =
        comes_to (found.Right given) taken.0 passed taken.3 taken.1 taken.2 version further bytes
    comes_kept found.End passed taken version further bytes = absurd taken
    comes_kept found.Other passed taken version further bytes = tt

-- what is judged by its comparison is taken in
pub judged_kept : (core : State) (has : Bool) (kept : Noted) (compared : Result Compared NoMemory) (after : Tables) → IfOk compared (Compares core kept.entry)
    → OnOk compared (AgreesWith (replayed core kept.entry) after) → (passed : Passed) → IsJudged has kept compared passed → TakesKept core has kept passed after
judged_kept core has kept (Ok (Same contamination)) after is made (found.Right given) judged = (contamination, is, judged, made)
judged_kept core has kept (Ok (Same contamination)) after is made found.End judged = absurd judged
judged_kept core has kept (Ok (Same contamination)) after is made found.Other judged = tt
judged_kept core has kept (Ok (Other expected)) after is made passed judged = subst (λ (p : Passed). TakesKept core has kept p after) (sym judged) tt
judged_kept core has kept (Err refused) after is made passed judged = absurd judged

-- ---- the text that is wanted

module _ (w : Wanted) (roots : List RootStart) where
  text_more : (ns : List Noted) (n : Noted) → wanted_text w roots (ns ++ n ∷ []) ≡ wanted_text w roots ns ++ flat_map noted_text (wanted_of w n)
  text_more ns n =
      let front = front_of w roots in
      let left = flat_map (wanted_of w) ns in
      ap (λ (ms : List Noted). front ++ flat_map noted_text ms)
      (flat_map-append (wanted_of w) ns (n ∷ []) ∙ ap (λ (ms : List Noted). left ++ ms) (append-nil (wanted_of w n)))
      ∙ ap (λ (u : List ℕ). front ++ u) (flat_map-append noted_text left (wanted_of w n))
      ∙ sym (append_assoc front (flat_map noted_text left) (flat_map noted_text (wanted_of w n)))

begun_right : (has : Bool) (roots : List RootStart) → IsRightJournal (journal_by has roots [])
begun_right true roots = record { legal = tt; noted = refl }
begun_right false roots = tt

module _ (w : Wanted) (roots : List RootStart) (bytes : List ℕ) where
  pub so_far_begun : (cursor : CursorState) (tables : Tables) (text : List ℕ) → HasPassed roots [] cursor → cursor.bytes ≡ bytes → AgreesWith (roots, []) tables
      → text ≡ front_of w roots → length bytes < 2 ^ 64 → IsSoFar w roots bytes [] cursor tables 0 text
  so_far_begun cursor tables text passed same made told short =
      record {
        come = record { passed = passed; made = made; right = begun_right cursor.has_notes roots };
        same = same;
        counted = refl;
        few = omega arith;
        short = short;
        told = told ∙ sym (append-nil (front_of w roots));
      }

  module _ (read : List Noted) (cursor : CursorState) (tables : Tables) (count : ℕ) (text : List ℕ)
      (so : IsSoFar w roots bytes read cursor tables count text) where
    -- the place behind one more entry, and the count of entries, fit in 64 bits
    pub one_fits : (given : Noted) (new : CursorState) (after : Tables) (one : PassesOne roots read given cursor new after) → count + 1 < 2 ^ 64
    one_fits given new after one =
        let inside = one.come.passed.inside in
        let same : length new.bytes ≡ length bytes = ap length (one.bytes ∙ so.same) in
        omega (arith, so.few, one.further, inside, same, so.short)

    pub so_far_more : (given : Noted) (new : CursorState) (after : Tables) (more : ℕ) (now : List ℕ) (one : PassesOne roots read given cursor new after)
        → more ≡ count + 1 → now ≡ text ++ flat_map noted_text (wanted_of w given) → IsSoFar w roots bytes (read ++ one.kept ∷ []) new after more now
    so_far_more given new after more now one counted written =
        record {
          come = one.come;
          same = one.bytes ∙ so.same;
          counted = omega (arith, counted, so.counted, length-append read (one.kept ∷ []));
          few = omega (arith, counted, so.few, one.further);
          short = so.short;
          told =
              written
              ∙ ap (λ (t : List ℕ). t ++ flat_map noted_text (wanted_of w given)) so.told
              ∙ sym (text_more w roots (noted roots (past_of read)) given)
              ∙ ap (λ (n : Noted). wanted_text w roots (noted roots (past_of read) ++ n ∷ [])) one.is
              ∙ ap (λ (p : List Entry). wanted_text w roots (noted roots p)) (sym (past_push read one.kept));
        }

    made_by : (has : Bool) → IsRightJournal (journal_by has roots read) → IsMade w count text (journal_by has roots read)
    made_by true right = record { right = right; counted = so.counted ∙ sym (length-map read bare); told = so.told }
    made_by false right = record { right = right; counted = so.counted ∙ sym (length-map read bare); told = so.told }

    pub made_of : EndsRight roots read cursor → OfJournal bytes (IsMade w count text)
    made_of ends =
        let journal = journal_by cursor.has_notes roots read in
        (journal, subst (IsJournalOf journal) so.same ends.whole, made_by cursor.has_notes ends.right)

-- where it ends with right entries, what is wanted of them is made
pub ended_right : (w : Wanted) (roots : List RootStart) (bytes : List ℕ) (read : List Noted) (old new : CursorState) (tables : Tables) (count : ℕ)
    (text : List ℕ) (is_right : Bool) → TakesOne w roots bytes read old (Some is_right) new tables count text → is_right ≡ true
    → OfJournal bytes (IsMade w count text)
ended_right w roots bytes read old new tables count text true made is = made
ended_right w roots bytes read old new tables count text false none is = absurd (let z : ⊥ = cc in z)

-- where one more entry was taken in, fewer bytes are left
pub fewer_left : (w : Wanted) (roots : List RootStart) (bytes : List ℕ) (read : List Noted) (old new : CursorState) (before after : Tables)
    (count more : ℕ) (text now : List ℕ) → IsSoFar w roots bytes read old before count text → TakesOne w roots bytes read old None new after more now
    → length new.bytes - new.place < length old.bytes - old.place
fewer_left w roots bytes read old new before after count more text now so taken =
    let then = taken.1.1 in
    let inside = then.come.passed.inside in
    let further = taken.0 in
    let same : length new.bytes ≡ length old.bytes = ap length (then.same ∙ sym so.same) in
    omega (arith, further, inside, same)

-- ---- what is told of it

each_one : (ns : List Noted) → flat_map (wanted_of wanted.Notes) ns ≡ ns
each_one [] = refl
each_one (n ∷ ns) = ap (λ (ms : List Noted). n ∷ ms) (each_one ns)

same_flat : (f g : Noted → List Noted) → ((n : Noted) → f n ≡ g n) → (ns : List Noted) → flat_map f ns ≡ flat_map g ns
same_flat f g same [] = refl
same_flat f g same (n ∷ ns) = ap (λ (ms : List Noted). ms ++ flat_map f ns) (same n) ∙ ap (λ (ms : List Noted). g n ++ ms) (same_flat f g same ns)

pub notes_told : (journal : Journal) (count : ℕ) (text : List ℕ) → IsMade wanted.Notes count text journal → IsUpgradeOf journal text
notes_told journal count text m =
    let roots = roots_in journal in
    record {
      right = m.right;
      told = m.told ∙ ap (λ (ns : List Noted). head_text roots ++ flat_map noted_text ns) (each_one (noted roots (past_in journal)));
      sound = legal_is_sound roots (past_in journal) (legal_in journal m.right);
    }

pub purge_made : (w : Wanted) (label : Label) (journal : Journal) (count : ℕ) (text : List ℕ) → ((n : Noted) → wanted_of w n ≡ left_noted label n)
    → ((roots : List RootStart) → front_of w roots ≡ head_text roots) → IsMade w count text journal → IsPurgeOf label journal text
purge_made w label journal count text wants front m =
    let roots = roots_in journal in
    let past = past_in journal in
    let legal = legal_in journal m.right in
    let ns = noted roots past in
    let separates = legal_separates roots past legal label in
    let left : flat_map (wanted_of w) ns ≡ noted roots (purge rows (firsts roots) label past) =
    same_flat (wanted_of w) (left_noted label) wants ns
    ∙ purged_by_notes roots label ns (flat_map (left_noted label) ns) refl (right_notes roots past legal)
    ∙ ap (λ (p : List Entry). noted roots (purge rows (firsts roots) label p)) (noted_past roots past) in
    record {
      right = m.right;
      told =
          m.told
          ∙ ap (λ (u : List ℕ). u ++ flat_map noted_text (flat_map (wanted_of w) ns)) (front roots)
          ∙ ap (λ (ms : List Noted). head_text roots ++ flat_map noted_text ms) left;
      separates = separates;
      sound = legal_is_sound roots (purge rows (firsts roots) label past) separates.legal;
    }

-- a journal that was gone over for its entries' count alone is checked
pub count_checked : (journal : Journal) (count : ℕ) (text told : List ℕ) → IsMade wanted.Count count text journal → told ≡ valid_text count
    → IsCheckOf journal Right told
count_checked (First start entries) count text told m is = (m.right, is ∙ ap valid_text m.counted)
count_checked (Second start notes) count text told m is = (m.right, is ∙ ap valid_text (m.counted ∙ length-map notes bare))
