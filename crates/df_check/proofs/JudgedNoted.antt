-- A check of a noted journal, as far as it has come.
use Rattle.df_check.proofs.Names.{◌≡◌, ◌↔◌, ℕ, List, [], ◌∷◌, ◌++◌, ◌+◌, ◌<◌, ◌≤◌, Option, Some, length, take, drop, get_or, map, reverse, refl, ap, sym, subst, ◌∙◌, arith, append_assoc, length-append, length-map, length-reverse, length-take-le, map-append, reverse-append, take_all, take_more, State, firsts, AgreesWith, Tables, Legal, rows, legal_at, RootStart, Entry, Noted, AreRight, noted, noted_in, past_of, Compares, entry_for, replayed, is_right, right_is, same_contamination, JudgesNoted, TellsOtherNoted, noted_for, Valid, Wrong}
use Rattle.df_label.specs.declared.label.Label.{Label}
use Rattle.df_replay.specs.declared.repeats.Compared.TheVariants.{Other, Same}
use Rattle.df_check.proofs.Judged.{split_at}
use Rattle.df_check.specs.CheckNoted.{IsFirstWrong}
use Rattle.df_check.specs.declared.noted.NotedVerdict.{NotedVerdict}

-- the tables are those of what was kept so far
pub record IsSoFar (roots : List RootStart) (journal : List Noted) (i : ℕ) (tables : Tables) : Type 0 where
  pub made : AgreesWith (roots, past_of (take i journal)) tables
  pub right : AreRight roots (take i journal)

abbrev bare : Noted → Entry
bare n = n.entry

past_push : (older : List Noted) (kept : Noted) → past_of (older ++ kept ∷ []) ≡ kept.entry ∷ past_of older
past_push older kept = ap reverse (map-append bare older (kept ∷ [])) ∙ reverse-append (map bare older) (kept.entry ∷ [])

-- the elements in the middle of two equal lists
in_the_middle : (xs ys ms ns : List Noted) (x y : Noted) → length xs ≡ length ys → xs ++ x ∷ ms ≡ ys ++ y ∷ ns → x ≡ y
in_the_middle [] [] ms ns x y l e = cc
in_the_middle [] (b ∷ ys) ms ns x y l e = absurd (omega arith)
in_the_middle (a ∷ xs) [] ms ns x y l e = absurd (omega arith)
in_the_middle (a ∷ xs) (b ∷ ys) ms ns x y l e = in_the_middle xs ys ms ns x y (omega arith) (let t : xs ++ x ∷ ms ≡ ys ++ y ∷ ns = cc in t)

-- where the rules give another entry, they give another one with its note
pub tells_other : (core : State) (kept expected : Noted) → Compares core kept.entry (Other expected)
    → TellsOtherNoted (noted_for core kept) kept (Some expected)
tells_other core kept expected compares = (
  compares.0 ∙ ap (λ (l : Option Label). let n : Noted = record { entry = entry_for core kept.entry; contamination = l } in n)
      (sym (same_contamination core.0 core.1 kept.entry)),
  λ same. compares.1 (ap bare same),
)

-- where they give the kept one, it has this contamination
pub tells_note : (core : State) (kept : Noted) (contamination : Option Label) (other : Option Noted) → Compares core kept.entry (Same contamination)
    → TellsOtherNoted (record { entry = kept.entry; contamination = contamination }) kept other → TellsOtherNoted (noted_for core kept) kept other
tells_note core kept contamination other compares told =
    subst (λ (n : Noted). TellsOtherNoted n kept other)
    (ap (λ (e : Entry). let n : Noted = record { entry = e; contamination = contamination } in n) (sym compares.0)
    ∙ ap (λ (l : Option Label). let n : Noted = record { entry = entry_for core kept.entry; contamination = l } in n)
    (compares.1 ∙ sym (same_contamination core.0 core.1 kept.entry)))
    told

module _ (roots : List RootStart) where
  pub noted_length : (past : List Entry) → length (noted roots past) ≡ length past
  noted_length [] = refl
  noted_length (e ∷ past) = omega (arith, length-append (noted roots past) (noted_in (roots, past) e ∷ []), noted_length past)

  -- what is noted with an entry comes behind what is noted with those before it
  noted_split : (newer past : List Entry) (e : Entry) → (later : List Noted) × (noted roots (newer ++ e ∷ past) ≡ noted roots past ++ noted_in (roots, past) e ∷ later)
  noted_split [] past e = ([], refl)
  noted_split (n ∷ newer) past e =
      let below = noted_split newer past e in
      let last = noted_in (roots, newer ++ e ∷ past) n ∷ [] in
      (below.0 ++ last, ap (λ (ns : List Noted). ns ++ last) below.1 ∙ append_assoc (noted roots past) (noted_in (roots, past) e ∷ below.0) last)

  -- an entry with its note is right where the rules give it
  note_right : (past : List Entry) (kept : Noted) → noted_for (roots, past) kept ≡ kept → noted_in (roots, past) kept.entry ≡ kept
  note_right past kept same = ap (noted_in (roots, past)) (sym (ap bare same)) ∙ same

  -- and the other way round
  right_note : (past : List Entry) (kept : Noted) → entry_for (roots, past) kept.entry ≡ kept.entry → noted_in (roots, past) kept.entry ≡ kept → noted_for (roots, past) kept ≡ kept
  right_note past kept right note = ap (noted_in (roots, past)) right ∙ note

  right_push : (older : List Noted) (kept : Noted) → AreRight roots older → noted_for (roots, past_of older) kept ≡ kept → AreRight roots (older ++ kept ∷ [])
  right_push older kept right same =
      let past = past_of older in
      let more = sym (past_push older kept) in
      record {
        legal = subst (Legal rows (firsts roots)) more (right.legal, is_right roots past kept.entry (ap bare same));
        noted =
            ap (λ (n : Noted). older ++ n ∷ []) (sym (note_right past kept same))
            ∙ ap (λ (ns : List Noted). ns ++ noted_in (roots, past) kept.entry ∷ []) right.noted
            ∙ ap (noted roots) more;
      }

  bared : (older newer : List Noted) (kept : Noted) → map bare (older ++ kept ∷ newer) ≡ map bare older ++ kept.entry ∷ map bare newer
  bared older newer kept = map-append bare older (kept ∷ newer)

  past_split : (older newer : List Noted) (kept : Noted) → past_of (older ++ kept ∷ newer) ≡ past_of newer ++ kept.entry ∷ past_of older
  past_split older newer kept =
      ap reverse (bared older newer kept)
      ∙ reverse-append (map bare older) (kept.entry ∷ map bare newer)
      ∙ ap (λ (r : List Entry). r ++ past_of older) (reverse-append (kept.entry ∷ []) (map bare newer))
      ∙ append_assoc (past_of newer) (kept.entry ∷ []) (past_of older)

  pub right_at : (journal older newer : List Noted) (kept : Noted) → AreRight roots journal → journal ≡ older ++ kept ∷ newer → noted_for (roots, past_of older) kept ≡ kept
  right_at journal older newer kept right whole =
      let past = past_of older in
      let entry = right_is roots past kept.entry (legal_at rows (firsts roots) (map bare journal) right.legal (map bare older) (map bare newer) kept.entry (ap (map bare) whole ∙ bared older newer kept)) in
      let split = noted_split (past_of newer) past kept.entry in
      let whole_noted : older ++ kept ∷ newer ≡ noted roots past ++ noted_in (roots, past) kept.entry ∷ split.0 =
      sym whole ∙ right.noted ∙ ap (noted roots) (ap past_of whole ∙ past_split older newer kept) ∙ split.1 in
      let long : length older ≡ length (noted roots past) = sym (noted_length past ∙ length-reverse (map bare older) ∙ length-map older bare) in
      right_note past kept entry (sym (in_the_middle older (noted roots past) newer split.0 kept (noted_in (roots, past) kept.entry) long whole_noted))

  module _ (journal : List Noted) where
    pub so_far_more : (i : ℕ) (d : Noted) (old new : Tables) → i < length journal → IsSoFar roots journal i old
        → AgreesWith (replayed (roots, past_of (take i journal)) (get_or journal i d).entry) new
        → noted_for (roots, past_of (take i journal)) (get_or journal i d) ≡ get_or journal i d → IsSoFar roots journal (i + 1) new
    so_far_more i d old new inside so made here =
        let older = take i journal in
        let kept = get_or journal i d in
        let more = sym (take_more journal i d inside) in
        record {
          made = subst (λ (p : List Entry). AgreesWith (roots, p) new) (ap (λ (e : Entry). e ∷ past_of older) (ap bare here) ∙ sym (past_push older kept) ∙ ap past_of more) made;
          right = subst (AreRight roots) more (right_push older kept so.right here);
        }

    pub first_wrong : (i : ℕ) (d : Noted) (old : Tables) (other : Noted) → i < length journal → IsSoFar roots journal i old
        → TellsOtherNoted (noted_for (roots, past_of (take i journal)) (get_or journal i d)) (get_or journal i d) (Some other) → IsFirstWrong roots journal i other
    first_wrong i d old other inside so tells =
        record {
          older = take i journal;
          kept = get_or journal i d;
          newer = drop (i + 1) journal;
          whole = split_at journal i d inside;
          at = sym (length-take-le i journal (omega (arith, inside)));
          right = so.right;
          answer = tells.0;
          wrong = λ same. tells.1 (sym tells.0 ∙ same);
        }

    pub so_far_all : (i : ℕ) (tables : Tables) → length journal ≤ i → IsSoFar roots journal i tables → AreRight roots journal
    so_far_all i tables done so = subst (AreRight roots) (take_all i journal done) so.right

    pub valid_is : (verdict : NotedVerdict) → JudgesNoted roots journal verdict → (verdict ≡ Valid) ↔ AreRight roots journal
    valid_is Valid right = (λ _. right, λ _. refl)
    valid_is (Wrong place expected) w =
        (λ e. absurd (let z : ⊥ = cc in z), λ right. absurd (w.wrong (w.answer ∙ right_at journal w.older w.newer w.kept right w.whole)))
