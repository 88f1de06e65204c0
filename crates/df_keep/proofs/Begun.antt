-- A store that was opened or created: what its image was found to be, and what a crash may leave.
use Rattle.std.proofs.Common.{◌≡◌, ◌≢◌, inl, inr, ℕ, ◌<◌, ◌^◌, ◌≤◌, List, [], length, Option, None, Some, Result, Ok, Err, refl, sym, ap, subst, arith}
use Rattle.std.specs.Prelude.{IfErr, IfOk, IfSome}
use Rattle.df_disk.specs.Disk.{LeavesOnly, Recedes}
use Rattle.df_disk.specs.Records.{IsEmpty}
use Rattle.df_durable.specs.Keeping.{HasCause, IsEmptyOrStarted}
use Rattle.df_durable.specs.Opening.{IfRead, IsOf}
use Rattle.df_durable.specs.declared.cause.NotKept.{NotKept}
use Rattle.df_durable.specs.declared.cause.NotKept.TheVariants as why
use Rattle.df_durable.specs.declared.cause.OpenCause.{OpenCause}
use Rattle.df_durable.specs.declared.cause.OpenCause.TheVariants as cause
use Rattle.df_durable.specs.declared.keeping.KeptCore.{KeptCore}
use Rattle.df_durable.proofs.Moments.{leaves_on, leaves_too}
use Rattle.df_io.specs.Faults.{Rose}
use Rattle.df_keep.specs.Kept.{BeginsWith}
use Rattle.df_keep.specs.Storing.{IsJudged, MayBeBegun, StopsOpening, StopsStepping, not_kept, not_opened}
use Rattle.df_keep.specs.declared.status.KeepStatus.{KeepStatus}
use Rattle.df_keep.specs.declared.status.KeepStatus.TheVariants as status
use Rattle.df_machine.specs.Journal.{State}
use Rattle.df_start.specs.declared.start.RootStart.{RootStart}

-- ---- what an image was found to be

module _ (roots : List RootStart) where
  pub judged_unopened : (told : Option (List ℕ)) (why : OpenCause) → IfSome told (λ image. IsOf image (Err why))
      → IfRead (Err why) (IfSome told (λ image. length image < 2 ^ 64)) → IfSome told (λ image. IsJudged {T = KeptCore} roots image (Err (not_opened why)))
  judged_unopened None why found short = tt
  judged_unopened (Some image) (cause.Damaged place) found short = (short, found)
  judged_unopened (Some image) cause.DiskFault found short = tt
  judged_unopened (Some image) cause.NoMemory found short = tt

  pub judged_uncreated : (told : Option (List ℕ)) (kept : NotKept) → IfSome told (λ image. IsJudged {T = KeptCore} roots image (Err (not_kept kept)))
  judged_uncreated None kept = tt
  judged_uncreated (Some image) why.Fault = tt
  judged_uncreated (Some image) why.NoMemory = tt

  module _ (kept : KeptCore) where
    pub judged_created : (told : Option (List ℕ)) → IfSome told IsEmpty → IfSome told (λ image. length image < 2 ^ 64)
        → IfSome told (λ image. IsJudged {T = KeptCore} roots image (Ok kept))
    judged_created None empty short = tt
    judged_created (Some image) empty short = (short, ((roots, []), (refl, inl (empty, refl))))

    pub begins_created : (told : Option (List ℕ)) → kept.core ≡ (roots, []) → IfSome told IsEmpty → IfSome told (λ image. BeginsWith roots image kept.core)
    begins_created None made empty = tt
    begins_created (Some image) made empty = (ap (λ (s : State). s.0) made, inl (empty, ap (λ (s : State). s.1) made))

    module _ (r : Result KeptCore KeepStatus) (same : IfOk r (λ k. (k ≡ kept) × (kept.core.0 ≡ roots)))
        (other : IfErr r (λ s. (s ≡ status.StartDiffers) × (kept.core.0 ≢ roots))) where
      judged_as : (image : List ℕ) → IsOf image (Ok (Some kept)) → length image < 2 ^ 64 → (q : Result KeptCore KeepStatus)
          → IfOk q (λ k. (k ≡ kept) × (kept.core.0 ≡ roots)) → IfErr q (λ s. (s ≡ status.StartDiffers) × (kept.core.0 ≢ roots)) → IsJudged roots image q
      judged_as image found short (Ok k) is differs = (short, (kept.core, (is.1, inr found.keeps)))
      judged_as image found short (Err s) is differs = subst (λ (x : KeepStatus). IsJudged {T = KeptCore} roots image (Err x)) (sym differs.0)
          (short, (kept.core, found.keeps, differs.1))

      pub judged_kept : (told : Option (List ℕ)) → IfSome told (λ image. IsOf image (Ok (Some kept))) → IfSome told (λ image. length image < 2 ^ 64)
          → IfSome told (λ image. IsJudged roots image r)
      judged_kept None found short = tt
      judged_kept (Some image) found short = judged_as image found short r same other

      begins_as : (told : Option (List ℕ)) → IfSome told (λ image. IsOf image (Ok (Some kept))) → (k : KeptCore) → k ≡ kept → kept.core.0 ≡ roots
          → IfSome told (λ image. BeginsWith roots image k.core)
      begins_as None found k is start = tt
      begins_as (Some image) found k is start = subst (λ (x : KeptCore). BeginsWith roots image x.core) (sym is) (start, inr found.keeps)

      pub begins_kept : (told : Option (List ℕ)) → IfSome told (λ image. IsOf image (Ok (Some kept)))
          → IfOk r (λ k. IfSome told (λ image. BeginsWith roots image k.core))
      begins_kept told found = each r same
        where
          each : (q : Result KeptCore KeepStatus) → IfOk q (λ k. (k ≡ kept) × (kept.core.0 ≡ roots))
              → IfOk q (λ k. IfSome told (λ image. BeginsWith roots image k.core))
          each (Ok k) is = begins_as told found k is.0 is.1
          each (Err s) is = tt

-- ---- why a run stops

pub stops_unopened : (before now : ℕ) (why : OpenCause) → (why ≡ cause.DiskFault → Rose before now) → StopsOpening before now (not_opened why)
stops_unopened before now (cause.Damaged place) rose = tt
stops_unopened before now cause.DiskFault rose = rose refl
stops_unopened before now cause.NoMemory rose = tt

pub rose_before : (before mid now : ℕ) → before ≤ mid → Rose mid now → Rose before now
rose_before before mid now le rose = omega arith

pub stops_unstepped : (before mid now : ℕ) (kept : NotKept) → before ≤ mid → HasCause mid now kept → StopsStepping before now (not_kept kept)
stops_unstepped before mid now why.Fault le rose = rose_before before mid now le rose
stops_unstepped before mid now why.NoMemory le rose = tt

-- ---- what a crash may leave

module _ {D : Type 0} (told : D → Option (List ℕ)) (may_leave : D → List ℕ → Type 0) (moment : D → ℕ) (left_since : D → ℕ → List ℕ → Type 0)
    (only_now : (disk : D) (c : List ℕ) → left_since disk (moment disk) c → may_leave disk c) (roots : List RootStart) (old mid : D)
    (recedes : Recedes (moment old) (moment mid) (left_since old) (left_since mid)) where
  -- calls that wrote nothing leave what could be left before
  receded : LeavesOnly moment left_since old mid (may_leave old)
  receded = record {
    later = recedes.later;
    each = λ c left. only_now old c (recedes.nothing_new (moment old) c (omega arith) left);
    before = λ t c le left. inl (recedes.nothing_new t c le left);
  }

  pub opened_leaves : (o : Option (List ℕ)) → IfSome o (λ image. LeavesOnly moment left_since old mid (MayBeBegun (may_leave old) roots image))
  opened_leaves None = tt
  opened_leaves (Some image) = leaves_too moment left_since old mid (may_leave old) (MayBeBegun (may_leave old) roots image) (λ c was. inl was) receded

  pub created_leaves : (new : D) (o : Option (List ℕ)) → IfSome o IsEmpty → IfSome o (λ _. LeavesOnly moment left_since mid new (IsEmptyOrStarted roots))
      → IfSome o (λ image. LeavesOnly moment left_since old new (MayBeBegun (may_leave old) roots image))
  created_leaves new None empty leaves = tt
  created_leaves new (Some image) empty leaves = leaves_on moment left_since old mid new (may_leave old) (IsEmptyOrStarted roots)
      (MayBeBegun (may_leave old) roots image) receded leaves (λ c was. inl was) (λ c now. inr (empty, now))
