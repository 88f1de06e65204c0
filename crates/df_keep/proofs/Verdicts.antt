-- When a status comes: what an image was found to be, and what it is.
use Rattle.std.proofs.Common.{◌≡◌, ◌⊎◌, inl, inr, ℕ, ◌<◌, ◌^◌, List, length, Option, None, Some, Result, Ok, Err, refl, sym, ◌∙◌, ap, subst}
use Rattle.std.specs.Prelude.{IfSome}
use Rattle.df_disk.specs.Disk.{LeavesOnly}
use Rattle.df_disk.proofs.Begins.{at_told}
use Rattle.df_durable.proofs.Moments.{leaves_too}
use Rattle.df_image.specs.Image.{IsDamagedAt}
use Rattle.df_image.proofs.Images.{kept_is_some, kept_is_whole, one_damage, one_journal}
use Rattle.df_keep.specs.Kept.{MayBeLeft}
use Rattle.df_keep.specs.Outcome.{DamagedIsDue, DamagedIsExact, DoesScript, HasOtherStart, IsOpenTo, IsStopped, StartDiffersIsExact}
use Rattle.df_keep.specs.Script.{IsToldScript, NamesScript, ReadsScript}
use Rattle.df_keep.specs.Storing.{IsJudged, IsWritten, MayBeKept, StopsOpening}
use Rattle.df_keep.specs.declared.script.Script.{Script}
use Rattle.df_keep.specs.declared.status.KeepStatus.{KeepStatus}
use Rattle.df_keep.specs.declared.status.KeepStatus.TheVariants as status
use Rattle.df_machine.specs.Journal.{State}
use Rattle.df_script_text.specs.declared.line.ScriptLine.{ScriptLine}
use Rattle.df_start.specs.declared.start.RootStart.{RootStart}

-- ---- an image is one thing

module _ (image : List ℕ) (small : length image < 2 ^ 64) where
  open_whole : (roots : List RootStart) (place : ℕ) → IsOpenTo roots image → ¬ IsDamagedAt place image
  open_whole roots place (core, (same, inl empty)) damaged = damaged.some empty.0
  open_whole roots place (core, (same, inr keeps)) damaged = kept_is_whole image core place small keeps damaged

  open_same : (roots : List RootStart) → IsOpenTo roots image → ¬ HasOtherStart roots image
  open_same roots (core, (same, inl empty)) other = kept_is_some image other.0 other.1 empty.0
  open_same roots (core, (same, inr keeps)) other = other.2 (ap (λ (s : State). s.0) (one_journal image other.0 core small other.1 keeps) ∙ same)

  other_whole : (roots : List RootStart) (place : ℕ) → HasOtherStart roots image → ¬ IsDamagedAt place image
  other_whole roots place other = kept_is_whole image other.0 place small other.1

-- ---- a run that stopped

module _ (roots : List RootStart) (image : List ℕ) (before now : ℕ) where
  stopped_damaged : (s : KeepStatus) → StopsOpening before now s → IsJudged {T = ℕ} roots image (Err s) → (place : ℕ) → IsDamagedAt place image
      → (s ≡ status.Damaged place) ⊎ IsStopped s
  stopped_damaged (status.Damaged other) stops judged place damaged =
      inl (ap (λ (n : ℕ). status.Damaged n) (one_damage image other place judged.0 judged.1 damaged))
  stopped_damaged status.StartDiffers stops judged place damaged = absurd (other_whole image judged.0 roots place judged.1 damaged)
  stopped_damaged status.DiskFault stops judged place damaged = inr (inl refl)
  stopped_damaged status.NoMemory stops judged place damaged = inr (inr (inr refl))
  stopped_damaged status.Done stops judged place damaged = absurd stops
  stopped_damaged status.Usage stops judged place damaged = absurd stops
  stopped_damaged (status.BadInput input line kind) stops judged place damaged = absurd stops
  stopped_damaged status.ReadFault stops judged place damaged = absurd stops
  stopped_damaged status.WriteFault stops judged place damaged = absurd stops
  stopped_damaged (status.TooLong input) stops judged place damaged = absurd stops

  stopped_other : (s : KeepStatus) → StopsOpening before now s → IsJudged {T = ℕ} roots image (Err s) → HasOtherStart roots image
      → (s ≡ status.StartDiffers) ⊎ IsStopped s
  stopped_other (status.Damaged place) stops judged other = absurd (other_whole image judged.0 roots place other judged.1)
  stopped_other status.StartDiffers stops judged other = inl refl
  stopped_other status.DiskFault stops judged other = inr (inl refl)
  stopped_other status.NoMemory stops judged other = inr (inr (inr refl))
  stopped_other status.Done stops judged other = absurd stops
  stopped_other status.Usage stops judged other = absurd stops
  stopped_other (status.BadInput input line kind) stops judged other = absurd stops
  stopped_other status.ReadFault stops judged other = absurd stops
  stopped_other status.WriteFault stops judged other = absurd stops
  stopped_other (status.TooLong input) stops judged other = absurd stops

  stopped_open : (s : KeepStatus) → StopsOpening before now s → IsJudged {T = ℕ} roots image (Err s) → IsOpenTo roots image → IsStopped s
  stopped_open (status.Damaged place) stops judged opens = absurd (open_whole image judged.0 roots place opens judged.1)
  stopped_open status.StartDiffers stops judged opens = absurd (open_same image judged.0 roots opens judged.1)
  stopped_open status.DiskFault stops judged opens = inl refl
  stopped_open status.NoMemory stops judged opens = inr (inr refl)
  stopped_open status.Done stops judged opens = absurd stops
  stopped_open status.Usage stops judged opens = absurd stops
  stopped_open (status.BadInput input line kind) stops judged opens = absurd stops
  stopped_open status.ReadFault stops judged opens = absurd stops
  stopped_open status.WriteFault stops judged opens = absurd stops
  stopped_open (status.TooLong input) stops judged opens = absurd stops

-- what was found, with a script that was read
module _ (told store : Option (List ℕ)) (script : Script) (reads : ReadsScript told script.start script.lines.items)
    (only : (roots : List RootStart) (lines : List ScriptLine) → IsToldScript told roots lines → (script.start ≡ roots) × (script.lines.items ≡ lines)) where
  judged_at : (r : Result ℕ KeepStatus) → IfSome store (λ image. IsJudged script.start image r) → (roots : List RootStart) (lines : List ScriptLine)
      (image : List ℕ) → IsToldScript told roots lines → store ≡ Some image → IsJudged roots image r
  judged_at r judged roots lines image says is = subst (λ (x : List RootStart). IsJudged x image r) (only roots lines says).0
      (at_told (λ (l : List ℕ). IsJudged script.start l r) store image is judged)

  module _ (before now : ℕ) (s : KeepStatus) (stops : StopsOpening before now s)
      (judged : IfSome store (λ image. IsJudged {T = ℕ} script.start image (Err s))) where
    damage_of : (o : Option (List ℕ)) (place : ℕ) → IfSome o (λ image. IsJudged {T = ℕ} script.start image (Err (status.Damaged place)))
        → IfSome o (IsDamagedAt place)
    damage_of None place h = tt
    damage_of (Some image) place h = h.1

    damaged_due : (x : KeepStatus) → s ≡ x → DamagedIsDue told store x
    damaged_due (status.Damaged place) is = (
      script.start,
      script.lines.items,
      reads,
      damage_of store place
          (subst (λ (y : KeepStatus). IfSome store (λ image. IsJudged {T = ℕ} script.start image (Err y))) is judged),
    )
    damaged_due status.StartDiffers is = tt
    damaged_due status.DiskFault is = tt
    damaged_due status.NoMemory is = tt
    damaged_due status.Done is = tt
    damaged_due status.Usage is = tt
    damaged_due (status.BadInput input line kind) is = tt
    damaged_due status.ReadFault is = tt
    damaged_due status.WriteFault is = tt
    damaged_due (status.TooLong input) is = tt

    pub stopped_damage : DamagedIsExact told store s
    stopped_damage = (
      damaged_due s refl,
      λ roots lines image says is place damaged. stopped_damaged roots image before now s stops
          (judged_at (Err s) judged roots lines image says is) place damaged,
    )

    other_of : (o : Option (List ℕ)) → IfSome o (λ image. IsJudged {T = ℕ} script.start image (Err status.StartDiffers)) → IfSome o (HasOtherStart script.start)
    other_of None h = tt
    other_of (Some image) h = h.1

    pub stopped_start : StartDiffersIsExact told store s
    stopped_start = (
      λ is. (
        script.start,
        script.lines.items,
        reads,
        other_of store
            (subst (λ (y : KeepStatus). IfSome store (λ image. IsJudged {T = ℕ} script.start image (Err y))) is judged),
      ),
      λ roots lines image says is other. stopped_other roots image before now s stops (judged_at (Err s) judged roots lines image says is) other,
    )

    pub stopped_does : DoesScript told store s
    stopped_does = λ roots lines image says is opens. inr (inr (stopped_open roots image before now s stops
        (judged_at (Err s) judged roots lines image says is) opens))

  -- ---- a run that stored all

  module _ (old new : Option (List ℕ)) (count : ℕ) (judged : IfSome store (λ image. IsJudged script.start image (Ok count))) where
    written_damage : (r : KeepStatus) → IsWritten old new count r → DamagedIsDue told store r
    written_damage status.Done h = tt
    written_damage status.WriteFault h = tt
    written_damage status.NoMemory h = tt
    written_damage (status.Damaged place) h = absurd h
    written_damage status.StartDiffers h = tt
    written_damage status.DiskFault h = tt
    written_damage status.Usage h = tt
    written_damage (status.BadInput input line kind) h = tt
    written_damage status.ReadFault h = tt
    written_damage (status.TooLong input) h = tt

    pub stored_damage : (r : KeepStatus) → IsWritten old new count r → DamagedIsExact told store r
    stored_damage r written = (
      written_damage r written,
      λ roots lines image says is place damaged.
          let found = judged_at (Ok count) judged roots lines image says is in
          absurd (open_whole image found.0 roots place found.1 damaged),
    )

    written_same : (r : KeepStatus) → IsWritten old new count r → ¬ (r ≡ status.StartDiffers)
    written_same r written is = subst (IsWritten old new count) is written

    pub stored_start : (r : KeepStatus) → IsWritten old new count r → StartDiffersIsExact told store r
    stored_start r written = (
      λ is. absurd (written_same r written is),
      λ roots lines image says is other.
          let found = judged_at (Ok count) judged roots lines image says is in
          absurd (open_same image found.0 roots found.1 other),
    )

  -- ---- what a crash may leave

  pub kept_left : (before : List ℕ → Type 0) (image c : List ℕ) → MayBeKept before script image c → MayBeLeft before told image c
  kept_left before image c (inl was) = inl was
  kept_left before image c (inr (inl none)) = inr (inl none)
  kept_left before image c (inr (inr front)) = inr (inr (script.start, script.lines.items, reads, front))

  pub run_left : {D : Type 0} (moment : D → ℕ) (left_since : D → ℕ → List ℕ → Type 0) (before : List ℕ → Type 0) (old new : D) (o : Option (List ℕ))
      → IfSome o (λ image. LeavesOnly moment left_since old new (MayBeKept before script image))
      → IfSome o (λ image. LeavesOnly moment left_since old new (MayBeLeft before told image))
  run_left moment left_since before old new None leaves = tt
  run_left moment left_since before old new (Some image) leaves = leaves_too moment left_since old new (MayBeKept before script image)
      (MayBeLeft before told image) (kept_left before image) leaves

-- ---- words

-- two words name one script
pub one_name : (words : List (List ℕ)) (name other : List ℕ) → NamesScript words name → NamesScript words other → name ≡ other
one_name words name other named named_too = let e = sym named.1 ∙ named_too.1 in cc
