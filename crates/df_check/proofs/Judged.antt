-- A check of a journal, as far as it has come.
use Rattle.df_check.proofs.Names.{◌≡◌, ◌↔◌, ℕ, List, ◌∷◌, ◌++◌, ◌+◌, ◌<◌, ◌≤◌, Some, length, take, drop, get_or, reverse, refl, ap, sym, subst, ◌∙◌, arith, drop_more, length-take-le, take-append-drop, take_all, firsts, AgreesWith, Tables, Legal, rows, legal_at, RootStart, Entry, entry_for, replayed, is_right, right_is, IsFirstWrong, Judges, TellsOther}
use Rattle.df_replay.proofs.Replayed.{reversed_more}
use Rattle.df_check.specs.declared.plain.Verdict.{Verdict}
use Rattle.df_check.specs.declared.plain.Verdict.TheVariants.{Valid, Wrong}

-- the tables are those of what was kept so far
pub record IsSoFar (roots : List RootStart) (journal : List Entry) (i : ℕ) (tables : Tables) : Type 0 where
  pub made : AgreesWith (roots, reverse (take i journal)) tables
  pub legal : Legal rows (firsts roots) (reverse (take i journal))

-- a list around one of its places
pub split_at : {A : Type 0} (xs : List A) (i : ℕ) (d : A) → i < length xs → xs ≡ take i xs ++ get_or xs i d ∷ drop (i + 1) xs
split_at {A} xs i d inside = sym (take-append-drop i xs) ∙ ap (λ (l : List A). take i xs ++ l) (drop_more xs i d inside)

module _ (roots : List RootStart) (journal : List Entry) where
  pub so_far_more : (i : ℕ) (d : Entry) (old new : Tables) → i < length journal → IsSoFar roots journal i old
      → AgreesWith (replayed (roots, reverse (take i journal)) (get_or journal i d)) new
      → entry_for (roots, reverse (take i journal)) (get_or journal i d) ≡ get_or journal i d → IsSoFar roots journal (i + 1) new
  so_far_more i d old new inside so made right =
      let past = reverse (take i journal) in
      let more = sym (reversed_more journal i d inside) in
      record {
        made = subst (λ (p : List Entry). AgreesWith (roots, p) new) (ap (λ (e : Entry). e ∷ past) right ∙ more) made;
        legal = subst (Legal rows (firsts roots)) more (so.legal, is_right roots past (get_or journal i d) right);
      }

  pub first_wrong : (i : ℕ) (d : Entry) (old : Tables) (other : Entry) → i < length journal → IsSoFar roots journal i old
      → TellsOther (entry_for (roots, reverse (take i journal)) (get_or journal i d)) (get_or journal i d) (Some other) → IsFirstWrong roots journal i other
  first_wrong i d old other inside so tells =
      let past = reverse (take i journal) in
      record {
        older = take i journal;
        kept = get_or journal i d;
        newer = drop (i + 1) journal;
        whole = split_at journal i d inside;
        at = sym (length-take-le i journal (omega (arith, inside)));
        legal = so.legal;
        wrong = λ right. tells.1 (right_is roots past (get_or journal i d) right);
        answer = tells.0;
      }

  pub so_far_all : (i : ℕ) (tables : Tables) → length journal ≤ i → IsSoFar roots journal i tables → Legal rows (firsts roots) (reverse journal)
  so_far_all i tables done so = subst (λ (j : List Entry). Legal rows (firsts roots) (reverse j)) (take_all i journal done) so.legal

  -- a legal journal has no wrong place
  pub legal_not_wrong : (place : ℕ) (expected : Entry) → Legal rows (firsts roots) (reverse journal) → IsFirstWrong roots journal place expected → ⊥
  legal_not_wrong place expected legal w = w.wrong (legal_at rows (firsts roots) journal legal w.older w.newer w.kept w.whole)

  pub valid_is : (verdict : Verdict) → Judges roots journal verdict → (verdict ≡ Valid) ↔ Legal rows (firsts roots) (reverse journal)
  valid_is Valid legal = (λ _. legal, λ _. refl)
  valid_is (Wrong place expected) w = (λ e. absurd (let z : ⊥ = cc in z), λ legal. absurd (legal_not_wrong place expected legal w))
