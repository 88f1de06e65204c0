-- The run of actors and calls is the one legal journal with them that no entry was emitted into.
use Rattle.df_rules.proofs.Names.{◌≡◌, List, [], ◌∷◌, refl, sym, ◌∙◌, ap, Legal, IsUnaided, answered, calls_of, run, Rules, OwnState, Call, Effect, Entry, Done, Emitted, UnitName, Reply}

module _ (R : Rules) (s : List OwnState) where
  pub run_legal : (calls : List (UnitName × Call)) → Legal R s (run R s calls)
  run_legal [] = tt
  run_legal (c ∷ calls) = (run_legal calls, refl)

  pub run_unaided : (calls : List (UnitName × Call)) → IsUnaided (run R s calls)
  run_unaided [] = tt
  run_unaided (c ∷ calls) = (run_unaided calls, tt)

  pub calls_of-run : (calls : List (UnitName × Call)) → calls_of (run R s calls) ≡ calls
  calls_of-run [] = refl
  calls_of-run (c ∷ calls) = ap (λ (cs : List (UnitName × Call)). c ∷ cs) (calls_of-run calls)

  pub is_run : (past : List Entry) → Legal R s past → IsUnaided past → past ≡ run R s (calls_of past)
  is_run [] h k = refl
  is_run (Done u c r f ∷ past) h k =
      ap (λ (e : Entry). e ∷ past) (ap (λ (a : Reply × Effect). Done u c a.0 a.1) (sym h.1))
      ∙ ap (λ (p : List Entry). answered R s p u c ∷ p) (is_run past h.0 k.0)
  is_run (Emitted c ∷ past) h k = absurd k.1
