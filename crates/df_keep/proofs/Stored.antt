-- A run on a store that was begun: what it keeps in the end, and what a crash may leave.
use Rattle.std.proofs.Common.{◌≡◌, inl, inr, ⊎_elim, ℕ, ◌≤◌, List, [], length, Option, None, Some, Result, Ok, Err, refl, sym, ◌∙◌, ap, subst}
use Rattle.std.specs.Prelude.{IfErr, IfOk, IfSome, OnOk}
use Rattle.df_disk.specs.Disk.{LeavesOnly}
use Rattle.df_durable.specs.Keeping.{IsOnDisk}
use Rattle.df_durable.specs.StoredState.{Holds}
use Rattle.df_durable.specs.declared.keeping.KeptCore.{KeptCore}
use Rattle.df_durable.proofs.Moments.{leaves_on, leaves_too}
use Rattle.df_keep.specs.Kept.{BeginsWith, followed}
use Rattle.df_keep.specs.Storing.{IsJudged, KeepsSome, MayBeBegun, MayBeKept, StopsOpening, StopsStepping, Stores}
use Rattle.df_keep.specs.declared.script.Script.{Script}
use Rattle.df_keep.specs.declared.status.KeepStatus.{KeepStatus}
use Rattle.df_keep.specs.declared.status.KeepStatus.TheVariants as status
use Rattle.df_keep.proofs.Begun.{rose_before}
use Rattle.df_machine.specs.Journal.{State}
use Rattle.df_start.specs.declared.start.RootStart.{RootStart}

-- ---- in the end

pub counted : (r : Result ℕ KeepStatus) (core last : State) → IfOk r (λ n. n ≡ length core.1) → OnOk r (core ≡ last)
    → IfOk r (λ n. n ≡ length last.1)
counted (Ok n) core last count same = count ∙ ap (λ (s : State). length s.1) same
counted (Err s) core last count same = tt

module _ {D : Type 0} (told : D → Option (List ℕ)) (may_leave : D → List ℕ → Type 0) (old new : D) where
  holds_now : (on : KeptCore) → IsOnDisk told may_leave new on → (told new ≡ None → told old ≡ None) → (o : Option (List ℕ)) → told old ≡ o
      → IfSome o (λ _. Holds told may_leave new on.core)
  holds_now on kept tells None is = tt
  holds_now on kept tells (Some bytes) is = ⊎_elim (λ none. absurd (let e = sym (tells none) ∙ is in let z : ⊥ = cc in z))
      (λ r. record { image = r.image; tells = r.tells; keeps = record { kept = kept.kept; keeps = r.keeps }; settled = r.settled }) kept.rests

  pub holds_last : (r : Result ℕ KeepStatus) (on : KeptCore) (last : State) → OnOk r (IsOnDisk told may_leave new on)
      → OnOk r (told new ≡ None → told old ≡ None) → OnOk r (on.core ≡ last) → OnOk r (IfSome (told old) (λ _. Holds told may_leave new last))
  holds_last (Ok n) on last kept tells same = subst (λ (s : State). IfSome (told old) (λ _. Holds told may_leave new s)) same
      (holds_now on kept tells (told old) refl)
  holds_last (Err s) on last kept tells same = tt

module _ {D : Type 0} (told : D → Option (List ℕ)) (may_leave : D → List ℕ → Type 0) (old mid new : D) (script : Script) (core : State)
    (tells : told mid ≡ None → told old ≡ None) where
  abbrev last : State
  last = followed core script.lines.items

  abbrev IsAll : List ℕ → Type 0
  IsAll image = (first : State) × BeginsWith script.start image first × (last ≡ followed first script.lines.items) × Holds told may_leave new last

  stores_at : (o p : Option (List ℕ)) → told old ≡ o → told mid ≡ p → IfSome o (λ image. BeginsWith script.start image core)
      → IfSome p (λ _. Holds told may_leave new last) → IfSome o IsAll
  stores_at None p is is_mid begins holds = tt
  stores_at (Some image) None is is_mid begins holds = absurd (let e = sym (tells is_mid) ∙ is in let z : ⊥ = cc in z)
  stores_at (Some image) (Some bytes) is is_mid begins holds = (core, begins, refl, holds)

  pub stores_all : (r : Result ℕ KeepStatus) → IfSome (told old) (λ image. BeginsWith script.start image core) → IfOk r (λ n. n ≡ length last.1)
      → OnOk r (IfSome (told mid) (λ _. Holds told may_leave new last)) → IfOk r (Stores told may_leave script old new)
  stores_all (Ok n) begins count holds = (last, count, stores_at (told old) (told mid) refl refl begins holds)
  stores_all (Err s) begins count holds = tt

-- ---- why it stops

pub judged_stepped : (roots : List RootStart) (before now : ℕ) (kept : KeptCore) (r : Result ℕ KeepStatus) → IfErr r (StopsStepping before now)
    → (told : Option (List ℕ)) → IfSome told (λ image. IsJudged {T = KeptCore} roots image (Ok kept)) → IfSome told (λ image. IsJudged roots image r)
judged_stepped roots before now kept r stops None judged = tt
judged_stepped roots before now kept r stops (Some image) judged = each r stops
  where
    each : (q : Result ℕ KeepStatus) → IfErr q (StopsStepping before now) → IsJudged roots image q
    each (Ok n) h = judged
    each (Err status.DiskFault) h = tt
    each (Err status.NoMemory) h = tt
    each (Err status.Done) h = absurd h
    each (Err status.Usage) h = absurd h
    each (Err (status.BadInput input line kind)) h = absurd h
    each (Err status.ReadFault) h = absurd h
    each (Err status.WriteFault) h = absurd h
    each (Err (status.TooLong input)) h = absurd h
    each (Err (status.Damaged place)) h = absurd h
    each (Err status.StartDiffers) h = absurd h

judged_else : (roots : List RootStart) (image : List ℕ) (s : KeepStatus) → IsJudged {T = KeptCore} roots image (Err s)
    → IsJudged {T = ℕ} roots image (Err s)
judged_else roots image status.Done h = h
judged_else roots image status.Usage h = h
judged_else roots image (status.BadInput input line kind) h = h
judged_else roots image status.ReadFault h = h
judged_else roots image status.WriteFault h = h
judged_else roots image status.NoMemory h = h
judged_else roots image (status.TooLong input) h = h
judged_else roots image status.DiskFault h = h
judged_else roots image (status.Damaged place) h = h
judged_else roots image status.StartDiffers h = h

pub judged_unbegun : (roots : List RootStart) (s : KeepStatus) (told : Option (List ℕ)) → IfSome told (λ image. IsJudged {T = KeptCore} roots image (Err s))
    → IfSome told (λ image. IsJudged {T = ℕ} roots image (Err s))
judged_unbegun roots s None judged = tt
judged_unbegun roots s (Some image) judged = judged_else roots image s judged

pub stops_stepped : (before mid now : ℕ) → before ≤ mid → (r : Result ℕ KeepStatus) → IfErr r (StopsStepping mid now) → IfErr r (StopsOpening before now)
stops_stepped before mid now le (Ok n) h = tt
stops_stepped before mid now le (Err status.DiskFault) h = rose_before before mid now le h
stops_stepped before mid now le (Err status.NoMemory) h = tt
stops_stepped before mid now le (Err status.Done) h = absurd h
stops_stepped before mid now le (Err status.Usage) h = absurd h
stops_stepped before mid now le (Err (status.BadInput input line kind)) h = absurd h
stops_stepped before mid now le (Err status.ReadFault) h = absurd h
stops_stepped before mid now le (Err status.WriteFault) h = absurd h
stops_stepped before mid now le (Err (status.TooLong input)) h = absurd h
stops_stepped before mid now le (Err (status.Damaged place)) h = absurd h
stops_stepped before mid now le (Err status.StartDiffers) h = absurd h

-- ---- what a crash may leave

module _ (before : List ℕ → Type 0) (script : Script) (image : List ℕ) where
  pub begun_kept : (c : List ℕ) → MayBeBegun before script.start image c → MayBeKept before script image c
  begun_kept c (inl was) = inl was
  begun_kept c (inr (empty, inl none)) = inr (inl (empty, none))
  begun_kept c (inr (empty, inr keeps)) = inr (inr ((script.start, []), [], script.lines.items, (refl, inl (empty, refl)), refl, keeps))

  some_kept : (core : State) → BeginsWith script.start image core → (c : List ℕ) → KeepsSome core script.lines.items c → MayBeKept before script image c
  some_kept core begins c some = inr (inr (core, some.0, some.1, begins, some.2, some.3))

module _ {D : Type 0} (told : D → Option (List ℕ)) (may_leave : D → List ℕ → Type 0) (moment : D → ℕ) (left_since : D → ℕ → List ℕ → Type 0)
    (old mid : D) (script : Script) where
  pub unbegun_leaves : (o : Option (List ℕ)) → IfSome o (λ image. LeavesOnly moment left_since old mid (MayBeBegun (may_leave old) script.start image))
      → IfSome o (λ image. LeavesOnly moment left_since old mid (MayBeKept (may_leave old) script image))
  unbegun_leaves None first = tt
  unbegun_leaves (Some image) first = leaves_too moment left_since old mid (MayBeBegun (may_leave old) script.start image)
      (MayBeKept (may_leave old) script image) (begun_kept (may_leave old) script image) first

  module _ (new : D) (core : State) (tells : told mid ≡ None → told old ≡ None) where
    both_leave : (o p : Option (List ℕ)) → told old ≡ o → told mid ≡ p → IfSome o (λ image. BeginsWith script.start image core)
        → IfSome o (λ image. LeavesOnly moment left_since old mid (MayBeBegun (may_leave old) script.start image))
        → IfSome p (λ _. LeavesOnly moment left_since mid new (KeepsSome core script.lines.items))
        → IfSome o (λ image. LeavesOnly moment left_since old new (MayBeKept (may_leave old) script image))
    both_leave None p is is_mid begins first second = tt
    both_leave (Some image) None is is_mid begins first second = absurd (let e = sym (tells is_mid) ∙ is in let z : ⊥ = cc in z)
    both_leave (Some image) (Some bytes) is is_mid begins first second = leaves_on moment left_since old mid new
        (MayBeBegun (may_leave old) script.start image) (KeepsSome core script.lines.items) (MayBeKept (may_leave old) script image) first second
        (begun_kept (may_leave old) script image) (some_kept (may_leave old) script image core begins)

    pub run_leaves : IfSome (told old) (λ image. BeginsWith script.start image core)
        → IfSome (told old) (λ image. LeavesOnly moment left_since old mid (MayBeBegun (may_leave old) script.start image))
        → IfSome (told mid) (λ _. LeavesOnly moment left_since mid new (KeepsSome core script.lines.items))
        → IfSome (told old) (λ image. LeavesOnly moment left_since old new (MayBeKept (may_leave old) script image))
    run_leaves = both_leave (told old) (told mid) refl refl
