-- A journal is legal exactly where each of its entries is the answer after those before it.
use Rattle.df_rules.proofs.Names.{◌≡◌, List, [], ◌∷◌, ◌++◌, refl, sym, ◌∙◌, ap, subst, reverse, reverse-append, reverse-reverse, append_assoc, Legal, IsRight, Rules, OwnState, Entry}

module _ (R : Rules) (s : List OwnState) where
  right_at : (past : List Entry) → Legal R s past → (newer older : List Entry) (e : Entry) → past ≡ newer ++ e ∷ older → IsRight R s older e
  right_at past h [] older e same = (subst (Legal R s) same h).1
  right_at [] h (n ∷ newer) older e same = absurd (let z : ⊥ = cc in z)
  right_at (x ∷ past) h (n ∷ newer) older e same = right_at past h.0 newer older e (let y : past ≡ newer ++ e ∷ older = cc in y)

  legal_of : (past : List Entry) → ((newer older : List Entry) (e : Entry) → past ≡ newer ++ e ∷ older → IsRight R s older e) → Legal R s past
  legal_of [] h = tt
  legal_of (x ∷ past) h = (legal_of past (λ newer older e same. h (x ∷ newer) older e (ap (λ (r : List Entry). x ∷ r) same)), h [] past x refl)

  reversed : (before later : List Entry) (e : Entry) → reverse (before ++ e ∷ later) ≡ reverse later ++ e ∷ reverse before
  reversed before later e = reverse-append before (e ∷ later) ∙ ap (λ (r : List Entry). r ++ reverse before) (reverse-append (e ∷ []) later) ∙ append_assoc (reverse later) (e ∷ []) (reverse before)

  pub legal_at : (j : List Entry) → Legal R s (reverse j) → (before later : List Entry) (e : Entry) → j ≡ before ++ e ∷ later → IsRight R s (reverse before) e
  legal_at j h before later e same = right_at (reverse j) h (reverse later) (reverse before) e (ap (reverse {A = Entry}) same ∙ reversed before later e)

  pub legal_by_places : (j : List Entry) → ((before later : List Entry) (e : Entry) → j ≡ before ++ e ∷ later → IsRight R s (reverse before) e) → Legal R s (reverse j)
  legal_by_places j h = legal_of (reverse j) (λ newer older e same.
      subst (λ (p : List Entry). IsRight R s p e) (reverse-reverse older)
      (h (reverse older) (reverse newer) e (sym (reverse-reverse j) ∙ ap (reverse {A = Entry}) same ∙ reversed newer older e)))

  -- what stands before in a legal journal is legal
  pub legal_before : (past : List Entry) → Legal R s past → (newer older : List Entry) → past ≡ newer ++ older → Legal R s older
  legal_before past h [] older same = subst (Legal R s) same h
  legal_before [] h (n ∷ newer) older same = absurd (let z : ⊥ = cc in z)
  legal_before (x ∷ past) h (n ∷ newer) older same = legal_before past h.0 newer older (let y : past ≡ newer ++ older = cc in y)
