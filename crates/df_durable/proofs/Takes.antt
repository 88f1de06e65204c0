-- A kept entry whose call is made again.
use Rattle.df_durable.proofs.Names.{◌≡◌, Bool, true, false, ℕ, List, ◌∷◌, Result, Ok, Err, refl, ◌∙◌, ap, subst, IfOk, IsTrue, OnOk, ◌↔◌, TakesEntry, State, Entry}
use Rattle.df_image.specs.Reading.{IsOneEntry}
use Rattle.df_replay.specs.Replay.{entry_for, replayed}
use Rattle.df_replay.proofs.Right.{is_right, right_is}

module _ (old new : State) (text : List ℕ) (entry : Entry) (one : IsOneEntry text entry) where
  one_taken : new ≡ replayed old entry → (alike : Bool) → (IsTrue alike ↔ (entry_for old entry ≡ entry)) → TakesEntry old text new alike
  one_taken made true tells = record {
    entry = entry;
    whole = one.fits;
    right = is_right old.0 old.1 entry (tells.0 refl);
    is = one.is;
    made = made ∙ ap (λ (x : Entry). let s : State = (old.0, x ∷ old.1) in s) (tells.0 refl);
  }
  one_taken made false tells = record {
    none = λ kept whole right is.
        let same : entry_for old entry ≡ entry = subst (λ (x : Entry). entry_for old x ≡ x) (one.one kept whole is) (right_is old.0 old.1 kept right) in
        let e : IsTrue false = tells.1 same in
        let z : ⊥ = cc in z;
  }

  pub taken : {E : Type 0} (r : Result Bool E) → OnOk r (new ≡ replayed old entry) → IfOk r (λ b. IsTrue b ↔ (entry_for old entry ≡ entry))
      → IfOk r (TakesEntry old text new)
  taken (Ok alike) made tells = one_taken made alike tells
  taken (Err e) made tells = tt
