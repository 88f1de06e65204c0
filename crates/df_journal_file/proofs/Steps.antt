-- What is read of an entry, step by step, and where that stops.
use Rattle.df_journal_file.proofs.Names.{ok_is, note_line, EditsSome, EndsFile, CommitFrom, EditFrom, EffectFrom, EntriesFrom, HandedFrom, IsHanding, NoteFrom, NotesNone, ReadFrom, ShownFrom, ShowsNone, Then, AreMarked, StopsLine, Onto, StopsIn, part_line, spot_line, IsAnswer, IsCalled, IsPart, IsSpot, IsLargeCalled, unit_text, begins_pair, Begins, FileFault, Spot, Part, Call, UnitName, PartRead, Reply, IsLabel, begins_with, begins_digit, Bool, List, [], ap, arith, codes, drop, false, inl, inr, length, lit<, refl, subst, sym, true, ℕ, ◌++◌, ◌∙◌, ◌∷◌, ◌≡◌, ◌≤◌, ◌⊎◌, Root, unended, answer_text, called, called_line}
use Rattle.df_lines.specs.declared.fault.FileFault.TheVariants as stop
use Rattle.df_unit.specs.declared.call.Call.TheVariants.{Get}
use Rattle.df_unit.specs.declared.reply.Reply.TheVariants as reply
use Rattle.df_journal_text.specs.ReadCall.{call_at}
use Rattle.df_journal_file.proofs.Fronts.{alike, digit_begins, one_result, same_end}
use Rattle.df_journal_file.proofs.Opens.{bare_parts, called_begins, done_to, effect_parts, emitted_to, none_left, opened, shows_or_not}
use Rattle.df_lines.proofs.Rows.{IsRow, row_some}
use Rattle.df_journal_file.proofs.Feeds.{CallTold, call_feeds, note_feeds, told_line}
use Rattle.df_journal_file.proofs.LineKinds.{adds_run, called_kind, entries_begin, label_fits, no_label, read_run, spots_run}
use Rattle.df_journal_file.proofs.Ontos.{never_stop, onto_here}
use Rattle.df_journal_file.proofs.Rows.{row_stop, run_none, run_row, then_row}
use Rattle.df_journal_file.specs.code.Marks.{IsUnitHere}
use Rattle.df_journal_text.specs.ReadName.{unit_at}
use Rattle.df_journal_text.specs.code.Judging.{answer_at, call_text}

-- lines of calls that are the same have the same reply
same_reply : (c d : CallTold) → IsCalled c → IsCalled d → told_line c ≡ told_line d → c.2 ≡ d.2
same_reply c d f g e =
    let behind : CallTold → List ℕ = λ c. call_text c.1 ++ answer_text c.2 in
    let whole = unended (unit_text c.0 ++ behind c) (unit_text d.0 ++ behind d) (sym (called_line c.0 c.1 c.2) ∙ e ∙ called_line d.0 d.1 d.2) in
    let front = λ (c : CallTold) (f : IsCalled c). called.front_back c.0 (behind c) f.0 (called.front_next c.1 c.2 f.1 f.2) in
    let middle = λ (c : CallTold) (f : IsCalled c). called.middle_back c.1 (answer_text c.2) f.1 (called.middle_next c.2 f.2) in
    let unit = ok_is _ _ (sym (front c f) ∙ ap unit_at whole ∙ front d g) in
    let call = ok_is _ _ (sym (middle c f) ∙ ap (λ (q : UnitName × List ℕ). call_at q.1) unit ∙ middle d g) in
    ap (λ (q : Reply × List ℕ). q.0) (ok_is _ _ (sym (called.tail_back c.2 f.2) ∙ ap (λ (q : Call × List ℕ). answer_at q.1) call ∙ called.tail_back d.2 g.2))

-- a contamination is noted, or none
noted_or_not : (has : Bool) (r : Reply) → NotesNone has r ⊎ ¬ NotesNone has r
noted_or_not false r = inl (inl refl)
noted_or_not true reply.NoSuchUnit = inl (inr refl)
noted_or_not true _ = inr (λ none. elim none [ inl e ↦ cc | inr e ↦ cc ])

-- ---- rows of the table

-- in front of no entry of a unit stands a digit
no_digit : (has : Bool) (u : List ℕ) → EndsFile u ⊎ CommitFrom has (codes "emitted") u → begins_digit u ≡ false
no_digit has u (inl (inl e)) = ap begins_digit e
no_digit has u (inl (inr e)) = ap begins_digit e.1
no_digit has u (inr m) = ap begins_digit m.4

module _ (has : Bool) where
  -- something may be shown behind a reply
  shown_some : (bare : Reply) → IsAnswer bare → Begins (ShownFrom has bare) []
  shown_some bare f =
      elim (shows_or_not bare) [
        | inl p ↦ let r = row_some (run_row (read_run has) 0) in (r.0, inr (bare_parts bare p.0 f p.1, r.1))
        | inr none ↦ ([], inl (none, inl (none_left has [] (inl refl))))
      ]

  -- a contamination that is noted
  pub note_row : (bare : Reply) → IsAnswer bare → IsRow note_line IsLabel (Then note_line IsLabel (ShownFrom has bare)) (λ _. ShownFrom has bare) (λ _. ⊥)
  note_row bare f = then_row note_line IsLabel (ShownFrom has bare) note_feeds no_label label_fits (shown_some bare f)

  note_some : (bare : Reply) → IsAnswer bare → Begins (NoteFrom has bare) []
  note_some bare f =
      elim (noted_or_not has bare) [
        | inl none ↦ let s = shown_some bare f in (s.0, inl (none, s.1))
        | inr some ↦ let s = row_some (note_row bare f) in (s.0, inr (some, s.1))
      ]

  -- an entry of a unit
  pub called_row : IsRow told_line IsCalled (EntriesFrom has) (λ c. NoteFrom has c.2) (λ u. EndsFile u ⊎ CommitFrom has (codes "emitted") u)
  called_row = record {
    feeds = call_feeds;
    from = opened has;
    to = λ c u f n. done_to has _ (c, u, f, n, refl);
    apart = λ c u f o. one_result (called_begins c u f) (no_digit has _ o);
    same = λ c d f g e u n. subst (λ (r : Reply). NoteFrom has r u) (sym (same_reply c d f g e)) n;
    some = λ c f. note_some c.2 f.2;
    one = ((Root (0 ∷ []), Get, reply.Ok), ((lit< tt, tt), tt, (tt, tt)));
  }

module _ (has : Bool) (bytes : List ℕ) (at : ℕ) where
  -- ---- edits

  -- nothing is deleted or added, so reading stops
  pub no_edit_stop : (behind end : ℕ) (spots : List Spot) (added : List Part) → at ≤ length bytes
      → AreMarked spot_line IsSpot 45 bytes at spots behind → AreMarked (part_line (codes "+")) IsPart 43 bytes behind added end
      → ¬ EditsSome (spots, added) → StopsIn (EditFrom has 0) bytes at (stop.Bad at)
  no_edit_stop behind end [] [] inside d a none =
      let no_spot : begins_pair 45 32 (drop at bytes) ≡ false = ap (begins_pair 45 32) d.0.parts ∙ d.1 in
      let no_part : begins_pair 43 32 (drop at bytes) ≡ false = ap (begins_pair 43 32) (d.0.parts ∙ a.0.parts) ∙ a.1 in
      never_stop (EditFrom has 0) bytes at inside (row_some (run_row (spots_run has) 0))
      (λ u like t.
      let adds = run_none (spots_run has) 0 u ((alike u _ like 45).1 refl ∙ no_spot) t in
      let some = run_none (adds_run has) 0 u ((alike u _ like 43).1 refl ∙ no_part) adds in omega (arith, some.0))
  no_edit_stop behind end (x ∷ spots) added inside d a none = absurd (none (omega arith))
  no_edit_stop behind end [] (y ∷ added) inside d a none = absurd (none (omega arith))

  -- ---- effects

  -- a commit, where its mark stands
  pub commit_onto : (r : Reply) → begins_pair 61 32 (drop at bytes) ≡ true → Onto (EffectFrom has r) bytes at (CommitFrom has (codes "=")) at
  commit_onto r marked = onto_here _ _ _ _ (λ u like. let b = (alike u _ like 61).1 refl ∙ marked in elim [
    | inl t ↦ one_result b (entries_begin has u t 61 refl)
    | inr (inl t) ↦ t
    | inr (inr t) ↦ one_result b (ap (begins_pair 61 32) t.1.4)
  ]) (λ u t. inr (inl t))

  -- an event that is handed over, where its mark stands
  pub handed_onto : (r : Reply) → IsHanding r → begins_pair 60 32 (drop at bytes) ≡ true → Onto (EffectFrom has r) bytes at (HandedFrom has) at
  handed_onto r hands marked = onto_here _ _ _ _ (λ u like. let b = (alike u _ like 60).1 refl ∙ marked in elim [
    | inl t ↦ one_result b (entries_begin has u t 60 refl)
    | inr (inl t) ↦ one_result b (ap (begins_pair 60 32) t.4)
    | inr (inr t) ↦ t.1
  ]) (λ u t. inr (inr (hands, t)))

  -- nothing, where neither does
  pub nothing_onto : (r : Reply) → begins_pair 61 32 (drop at bytes) ≡ false → (IsHanding r → begins_pair 60 32 (drop at bytes) ≡ false)
      → Onto (EffectFrom has r) bytes at (EntriesFrom has) at
  nothing_onto r no_commit no_given = onto_here _ _ _ _ (λ u like. elim [
    | inl t ↦ t
    | inr (inl t) ↦ one_result (ap (begins_pair 61 32) t.4) ((alike u _ like 61).1 refl ∙ no_commit)
    | inr (inr t) ↦ one_result (ap (begins_pair 60 32) t.1.4) ((alike u _ like 60).1 refl ∙ no_given t.0)
  ]) (λ u t. inl t)

  -- ---- what a read shows

  -- the reply `parts` shows some
  pub bare_onto : (bare : Reply) → bare ≡ reply.Parts [] → Onto (ShownFrom has bare) bytes at (ReadFrom has 0) at
  bare_onto bare is = onto_here _ _ _ _ (λ u like t. elim t [ inl s ↦ absurd (s.0 [] is) | inr s ↦ s.1 ]) (λ u t. inr (is, t))

  -- each other reply stands alone
  pub alone_onto : (bare : Reply) → ShowsNone bare → Onto (ShownFrom has bare) bytes at (EffectFrom has bare) at
  alone_onto bare none = onto_here _ _ _ _ (λ u like t. elim t [ inl s ↦ s.1 | inr s ↦ absurd (none [] s.0) ]) (λ u t. inl (none, t))

  -- which parts are shown makes no effect another
  pub parts_onto : (parts : List PartRead) → Onto (EffectFrom has (reply.Parts [])) bytes at (EffectFrom has (reply.Parts parts)) at
  parts_onto parts = onto_here _ _ _ _ (λ u like t. effect_parts has [] parts u t) (λ u t. effect_parts has parts [] u t)

  -- ---- what is noted

  -- nothing
  pub unnoted_onto : (bare : Reply) → NotesNone has bare → Onto (NoteFrom has bare) bytes at (ShownFrom has bare) at
  unnoted_onto bare none = onto_here _ _ _ _ (λ u like t. elim t [ inl s ↦ s.1 | inr s ↦ absurd (s.0 none) ]) (λ u t. inl (none, t))

  -- a contamination
  pub noted_onto : (bare : Reply) → ¬ NotesNone has bare → Onto (NoteFrom has bare) bytes at (Then note_line IsLabel (ShownFrom has bare)) at
  noted_onto bare some = onto_here _ _ _ _ (λ u like t. elim t [ inl s ↦ absurd (some s.0) | inr s ↦ s.1 ]) (λ u t. inr (some, t))

  -- ---- calls

  -- a line that is none of a call is bad
  pub called_stop : at ≤ length bytes → IsUnitHere (drop at bytes) → (f : FileFault) → StopsLine told_line IsCalled IsLargeCalled bytes at f
      → StopsIn (EntriesFrom has) bytes at f
  called_stop inside here =
      row_stop called_kind (called_row has) bytes at inside (λ u like o. elim o [
        | inl e ↦ here.0 (same_end u (drop at bytes) like e)
        | inr m ↦ one_result (ap (begins_with 101) m.4) ((alike u (drop at bytes) like 101).0 ∙ here.1)
      ])

  -- what the world emitted, where its mark begins
  pub emitted_onto : begins_with 101 (drop at bytes) ≡ true → Onto (EntriesFrom has) bytes at (CommitFrom has (codes "emitted")) at
  emitted_onto marked = onto_here _ _ _ _ (λ u like t. let b = (alike u _ like 101).0 ∙ marked in elim (opened has u t) [
    | inl (inl (inl e)) ↦ one_result b (ap (begins_with 101) e)
    | inl (inl (inr e)) ↦ one_result b (ap (begins_with 101) e.1)
    | inl (inr m) ↦ m
    | inr d ↦ one_result b (digit_begins 101 u (ap begins_digit d.4 ∙ called_begins d.0 d.1 d.2) refl).0
  ]) (λ u t. emitted_to has u t)
