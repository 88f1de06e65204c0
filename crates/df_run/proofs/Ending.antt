-- The status of a run that made a text.
use Rattle.df_run.proofs.Names.{◌≡◌, ◌⊎◌, ℕ, List, Option, ap, inl, inr, refl, sym, subst, IsWritten, status_of, BadInputIsDue, BadInputIsExact, DoesInput, IsHindered, IsOfACommand, IsOutcome, IsTextOfSome, IsToldBad, IsToldLong, NoPlaceIsDue, NoPlaceIsExact, OfTold, Reaches, TooLongIsDue, TooLongIsExact, UnsettledIsDue, UnsettledIsExact, WereRead, WriteFaultIsDue, Writes, WrongIsDue, WrongIsExact, IsCutInput, IsNoPlaceInput, IsRightInput, IsWrongInput, Status, End, Command}
use Rattle.df_io.specs.Pieces.{HasAll}
use Rattle.df_run.specs.declared.status.Status.TheVariants as status
use Rattle.df_run.specs.declared.tasks.End.TheVariants as end
use Rattle.df_run.proofs.Inputs.{EndsSo, MustEnd, ends_inputs, ends_once, text_ends}
use Rattle.df_run.proofs.Reaching.{ToldBad, ToldLong, if_all_told-all, if_all_told-read, none_is_bad, told_bad, told_long}

-- what holds of the status of a run that ended so, and of a failed write, holds once it was written
written : (C : Status → Type 0) (e : End) (text : List ℕ) (old new : Option (List ℕ)) (s : Status) → IsWritten e text old new s → C (status_of e)
    → C status.WriteFault → C s
written C e text old new s (inl all) done fault = subst C (sym all.0) done
written C e text old new s (inr front) done fault = subst C (sym front.0) fault

-- a status of a text blames nothing
no_bad_input : (c : Command) (files : List (Option (List ℕ))) (e : End) → BadInputIsDue c files (status_of e)
no_bad_input c files end.Done = tt
no_bad_input c files (end.Wrong place) = tt
no_bad_input c files (end.Unsettled steps) = tt
no_bad_input c files (end.NoPlace count) = tt

no_too_long : (c : Command) (files : List (Option (List ℕ))) (e : End) → TooLongIsDue c files (status_of e)
no_too_long c files end.Done = tt
no_too_long c files (end.Wrong place) = tt
no_too_long c files (end.Unsettled steps) = tt
no_too_long c files (end.NoPlace count) = tt

no_usage : (e : End) → IsOfACommand (status_of e)
no_usage end.Done = λ same. cc
no_usage (end.Wrong place) = λ same. cc
no_usage (end.Unsettled steps) = λ same. cc
no_usage (end.NoPlace count) = λ same. cc

no_read_fault : (e : End) → status_of e ≡ status.ReadFault → ⊥
no_read_fault end.Done same = cc
no_read_fault (end.Wrong place) same = cc
no_read_fault (end.Unsettled steps) same = cc
no_read_fault (end.NoPlace count) same = cc

module _ (c : Command) (files : List (Option (List ℕ))) (read : List (List ℕ)) (were : WereRead files read) where
  -- the status of what was read is that of the end that it has in any run
  one_status : (d e : End) → EndsSo c read d → MustEnd c read e → (status_of d ≡ status_of e) ⊎ IsHindered (status_of d)
  one_status d e v w = inl (ap status_of (ends_once c read d e v w))

  wrong_due : (e : End) → EndsSo c read e → WrongIsDue c files (status_of e)
  wrong_due end.Done h = tt
  wrong_due (end.Wrong place) h = (read, were, h)
  wrong_due (end.Unsettled steps) h = tt
  wrong_due (end.NoPlace count) h = tt

  unsettled_due : (e : End) → EndsSo c read e → UnsettledIsDue c files (status_of e)
  unsettled_due end.Done h = tt
  unsettled_due (end.Wrong place) h = tt
  unsettled_due (end.Unsettled steps) h = (read, were, h)
  unsettled_due (end.NoPlace count) h = tt

  no_place_due : (e : End) → EndsSo c read e → NoPlaceIsDue c files (status_of e)
  no_place_due end.Done h = tt
  no_place_due (end.Wrong place) h = tt
  no_place_due (end.Unsettled steps) h = tt
  no_place_due (end.NoPlace count) h = (read, were, h)

  wrong : (e : End) → EndsSo c read e → WrongIsExact c files (status_of e)
  wrong e h = (
    wrong_due e h,
    if_all_told-read files read (λ r. (place : ℕ) → IsWrongInput c r place → (status_of e ≡ status.Wrong place) ⊎ IsHindered (status_of e)) were
        (λ place bad. one_status e (end.Wrong place) h bad),
  )

  unsettled : (e : End) → EndsSo c read e → UnsettledIsExact c files (status_of e)
  unsettled e h = (
    unsettled_due e h,
    if_all_told-read files read (λ r. (steps : ℕ) → IsCutInput c r steps → (status_of e ≡ status.Unsettled steps) ⊎ IsHindered (status_of e)) were
        (λ steps cut. one_status e (end.Unsettled steps) h cut),
  )

  no_place : (e : End) → EndsSo c read e → NoPlaceIsExact c files (status_of e)
  no_place e h = (
    no_place_due e h,
    if_all_told-read files read (λ r. (count : ℕ) → IsNoPlaceInput c r count → (status_of e ≡ status.NoPlace count) ⊎ IsHindered (status_of e)) were
        (λ count lacks. one_status e (end.NoPlace count) h lacks),
  )

  does : (e : End) → EndsSo c read e → DoesInput c files (status_of e)
  does e h =
      if_all_told-read files read (λ r. IsRightInput c r → (status_of e ≡ status.Done) ⊎ IsHindered (status_of e)) were
      (λ right. one_status e end.Done h right)

-- the whole text of a run that ended so was written
all_writes : (c : Command) (files : List (Option (List ℕ))) (e : End) (text : List ℕ) → IsTextOfSome c files e text → (old new : Option (List ℕ))
    → HasAll old text new → Writes c files old new (status_of e)
all_writes c files end.Done text h old new all = (text, h, all)
all_writes c files (end.Wrong place) text h old new all = (text, h, all)
all_writes c files (end.Unsettled steps) text h old new all = (text, h, all)
all_writes c files (end.NoPlace count) text h old new all = (text, h, all)

module _ (c : Command) (files : List (Option (List ℕ))) (e : End) (text : List ℕ) (h : IsTextOfSome c files e text) (old new : Option (List ℕ)) (s : Status)
    (w : IsWritten e text old new s) where
  ends : EndsSo c h.0 e
  ends = text_ends c h.0 e text h.2

  -- nothing of what was read is told to be bad, or too long
  not_bad : (input : ℕ) → IsToldBad c files input → ⊥
  not_bad input bad = none_is_bad c (ToldBad c) (told_bad c) 1 files h.0 input h.1 (ends_inputs c h.0 e ends) bad

  not_long : (input : ℕ) → Reaches OfTold c 1 files input IsToldLong → ⊥
  not_long input bad = none_is_bad c ToldLong (told_long c) 1 files h.0 input h.1 (ends_inputs c h.0 e ends) bad

  end_asked : IsOfACommand s
  end_asked = written IsOfACommand e text old new s w (no_usage e) (λ same. cc)

  end_bad_input : BadInputIsExact c files s
  end_bad_input = (
    written (BadInputIsDue c files) e text old new s w (no_bad_input c files e) tt,
    λ input bad. absurd (not_bad input bad),
  )

  end_too_long : TooLongIsExact c files s
  end_too_long = (
    written (TooLongIsDue c files) e text old new s w (no_too_long c files e) tt,
    λ input bad. absurd (not_long input bad),
  )

  end_wrong : WrongIsExact c files s
  end_wrong = written (WrongIsExact c files) e text old new s w (wrong c files h.0 h.1 e ends) (
    tt,
    if_all_told-all files (λ r. (place : ℕ) → IsWrongInput c r place → (status.WriteFault ≡ status.Wrong place) ⊎ IsHindered status.WriteFault)
        (λ r place bad. inr (inl refl)),
  )

  end_unsettled : UnsettledIsExact c files s
  end_unsettled = written (UnsettledIsExact c files) e text old new s w (unsettled c files h.0 h.1 e ends) (
    tt,
    if_all_told-all files (λ r. (steps : ℕ) → IsCutInput c r steps → (status.WriteFault ≡ status.Unsettled steps) ⊎ IsHindered status.WriteFault)
        (λ r steps cut. inr (inl refl)),
  )

  end_no_place : NoPlaceIsExact c files s
  end_no_place = written (NoPlaceIsExact c files) e text old new s w (no_place c files h.0 h.1 e ends) (
    tt,
    if_all_told-all files (λ r. (count : ℕ) → IsNoPlaceInput c r count → (status.WriteFault ≡ status.NoPlace count) ⊎ IsHindered status.WriteFault)
        (λ r count lacks. inr (inl refl)),
  )

  end_does : DoesInput c files s
  end_does = written (DoesInput c files) e text old new s w (does c files h.0 h.1 e ends)
      (if_all_told-all files (λ r. IsRightInput c r → (status.WriteFault ≡ status.Done) ⊎ IsHindered status.WriteFault) (λ r right. inr (inl refl)))

  end_no_read_fault : s ≡ status.ReadFault → ⊥
  end_no_read_fault = written (λ r. r ≡ status.ReadFault → ⊥) e text old new s w (no_read_fault e) (λ same. cc)

  end_writes : Writes c files old new s
  end_writes = elim w [
    | inl all ↦ subst (Writes c files old new) (sym all.0) (all_writes c files e text h old new all.1)
    | inr front ↦ subst (Writes c files old new) (sym front.0) (text, e, h, front.1)
  ]

  pub end_outcome : (shelf_before shelf_after sink_before sink_after : ℕ) → WriteFaultIsDue sink_before sink_after s
      → IsOutcome c files shelf_before shelf_after sink_before sink_after old new s
  end_outcome shelf_before shelf_after sink_before sink_after due = record {
    asked = end_asked;
    bad_input = end_bad_input;
    too_long = end_too_long;
    wrong = end_wrong;
    unsettled = end_unsettled;
    no_place = end_no_place;
    read_fault = λ is. absurd (end_no_read_fault is);
    write_fault = due;
    writes = end_writes;
    does = end_does;
  }
