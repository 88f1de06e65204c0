-- Reports of a first wrong place.
use Rattle.df_audit.proofs.Names.{◌≡◌, ℕ, List, [], ◌∷◌, ◌++◌, None, Result, Ok, Err, IfOk, get_or, length, refl, ap, sym, subst, ◌∙◌, RootStart, Entry, Noted, entry_text, noted_text, IsCheckOfFirst, IsCheckOfSecond, wrong_text, Audit, Finding, Wrong}
use Rattle.df_check.specs.Check as plain
use Rattle.df_check.specs.CheckNoted as with_notes

module _ {X : Type 0} where
  -- the element behind some
  middle : (older newer : List X) (kept d : X) → get_or (older ++ kept ∷ newer) (length older) d ≡ kept
  middle [] newer kept d = refl
  middle (x ∷ older) newer kept d = middle older newer kept d

  -- the element at the place is the one behind those before it
  kept_at : (xs older newer : List X) (kept there : X) (place : ℕ) → xs ≡ older ++ kept ∷ newer → place ≡ length older → there ≡ get_or xs place there
      → there ≡ kept
  kept_at xs older newer kept there place whole at is =
      is ∙ ap (λ (ys : List X). get_or ys place there) whole ∙ ap (λ (n : ℕ). get_or (older ++ kept ∷ newer) n there) at ∙ middle older newer kept there

module _ {E : Type 0} (roots : List RootStart) (place : ℕ) where
  pub first_told : (entries : List Entry) (expected there : Entry) (r : Result Audit E) → plain.IsFirstWrong roots entries place expected
      → there ≡ get_or entries place there → IfOk r (λ a. a.finding ≡ Wrong place)
      → IfOk r (λ a. a.text.items ≡ wrong_text place (entry_text None there) (entry_text None expected)) → IfOk r
      (λ a. IsCheckOfFirst roots entries a.finding a.text.items)
  first_told entries expected there (Ok a) w is found told =
      let same = kept_at entries w.older w.newer w.kept there place w.whole w.at is in
      subst (λ (f : Finding). IsCheckOfFirst roots entries f a.text.items) (sym found)
      (expected, w, told ∙ ap (λ (k : Entry). wrong_text place (entry_text None k) (entry_text None expected)) same)
  first_told entries expected there (Err e) w is found told = found

  pub second_told : (notes : List Noted) (expected there : Noted) (r : Result Audit E) → with_notes.IsFirstWrong roots notes place expected
      → there ≡ get_or notes place there → IfOk r (λ a. a.finding ≡ Wrong place)
      → IfOk r (λ a. a.text.items ≡ wrong_text place (noted_text there) (noted_text expected)) → IfOk r
      (λ a. IsCheckOfSecond roots notes a.finding a.text.items)
  second_told notes expected there (Ok a) w is found told =
      let same = kept_at notes w.older w.newer w.kept there place w.whole w.at is in
      subst (λ (f : Finding). IsCheckOfSecond roots notes f a.text.items) (sym found)
      (expected, w, told ∙ ap (λ (k : Noted). wrong_text place (noted_text k) (noted_text expected)) same)
  second_told notes expected there (Err e) w is found told = found
