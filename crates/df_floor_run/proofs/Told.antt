-- The lines of one more entry of a legal journal.
use Rattle.df_floor_run.proofs.Names.{◌≡◌, ℕ, List, [], ◌∷◌, ◌++◌, ◌+◌, ◌<◌, length, take, drop, get_or, reverse, refl, ap, sym, subst, ◌∙◌, noted_text, firsts, AgreesWith, Legal, rows, RootStart, Entry, noted, noted_in, entry_for, replayed}
use Rattle.std.specs.List.{flat_map}
use Rattle.std.proofs.lemmas.Grind.{flat_map-append}
use Rattle.std.proofs.lemmas.List.{drop_more, take-append-drop}
use Rattle.df_machine.specs.declared.tables.Tables.{Tables}
use Rattle.df_rules.proofs.Places.{legal_at}
use Rattle.df_replay.proofs.Replayed.{reversed_more}
use Rattle.df_replay.proofs.Right.{right_is}

-- the lines of entries with their actors' contaminations, the oldest first
abbrev pub lines_of : List RootStart → List Entry → List ℕ
lines_of roots past = flat_map noted_text (noted roots past)

-- the tables are those of what was kept so far, whose lines were appended
pub record IsToldSoFar (roots : List RootStart) (journal : List Entry) (before : List ℕ) (i : ℕ) (tables : Tables) (text : List ℕ) : Type 0 where
  pub made : AgreesWith (roots, reverse (take i journal)) tables
  pub told : text ≡ before ++ lines_of roots (reverse (take i journal))

append_again : {A : Type 0} (xs ys zs : List A) → (xs ++ ys) ++ zs ≡ xs ++ (ys ++ zs)
append_again [] ys zs = refl
append_again (x ∷ xs) ys zs = ap (λ (l : List _). x ∷ l) (append_again xs ys zs)

append_none : {A : Type 0} (xs : List A) → xs ++ [] ≡ xs
append_none [] = refl
append_none (x ∷ xs) = ap (λ (l : List _). x ∷ l) (append_none xs)

module _ (roots : List RootStart) (journal : List Entry) (before : List ℕ) (legal : Legal rows (firsts roots) (reverse journal)) where
  right_here : (i : ℕ) (d : Entry) → i < length journal → entry_for (roots, reverse (take i journal)) (get_or journal i d) ≡ get_or journal i d
  right_here i d inside =
      right_is roots (reverse (take i journal)) (get_or journal i d)
      (legal_at rows (firsts roots) journal legal (take i journal) (drop (i + 1) journal) (get_or journal i d)
      (sym (take-append-drop i journal) ∙ ap (λ (l : List Entry). take i journal ++ l) (drop_more journal i d inside)))

  lines_more : (past : List Entry) (e : Entry) → lines_of roots past ++ noted_text (noted_in (roots, past) e) ≡ lines_of roots (e ∷ past)
  lines_more past e =
      ap (λ (l : List ℕ). lines_of roots past ++ l) (sym (append_none (noted_text (noted_in (roots, past) e))))
      ∙ sym (flat_map-append noted_text (noted roots past) (noted_in (roots, past) e ∷ []))

  pub told_more : (i : ℕ) (d : Entry) (old new : Tables) (text now : List ℕ) → i < length journal → IsToldSoFar roots journal before i old text
      → now ≡ text ++ noted_text (noted_in (roots, reverse (take i journal)) (get_or journal i d))
      → AgreesWith (replayed (roots, reverse (take i journal)) (get_or journal i d)) new → IsToldSoFar roots journal before (i + 1) new now
  told_more i d old new text now inside so pushed made =
      let past = reverse (take i journal) in
      let kept = get_or journal i d in
      let more = sym (reversed_more journal i d inside) in
      record {
        made = subst (λ (p : List Entry). AgreesWith (roots, p) new) (ap (λ (e : Entry). e ∷ past) (right_here i d inside) ∙ more) made;
        told =
            pushed
            ∙ ap (λ (ls : List ℕ). ls ++ noted_text (noted_in (roots, past) kept)) so.told
            ∙ append_again before (lines_of roots past) (noted_text (noted_in (roots, past) kept))
            ∙ ap (λ (ls : List ℕ). before ++ ls) (lines_more past kept ∙ ap (lines_of roots) more);
      }
