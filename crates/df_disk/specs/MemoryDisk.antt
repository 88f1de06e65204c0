-- A disk in memory.
use Rattle.std.specs.Prelude.{◌≡◌, ◌⊎◌, ◌≤◌, ◌<◌, ℕ, ◌+◌, ◌-◌, ◌==◌, if◌then◌else◌, Bool, List, [], ◌∷◌, length, take, drop, reverse, Contains, Some, refl, suc}
use Rattle.std.proofs.Common.{inl, inr, arith}
use Rattle.df_io.specs.Faults.{count_more}
use Rattle.df_disk.specs.Disk.{MayStay, Torn, overwritten}
use Rattle.df_disk.specs.declared.memory_disk.Call.{Call}
use Rattle.df_disk.specs.declared.memory_disk.Call.TheVariants.{Looked, Synced, Wrote}

-- a past call: one that changed nothing, a sync that was done, or a write, at a place, of a piece,
-- and whether it was done
pub data Past : Type 0 where
  looked : Past
  synced : Past
  wrote : ℕ → List ℕ → Bool → Past

-- the past calls, the newest first; the numbers of the calls that fail; the room that is left, in
-- bytes and in calls; and the count of faults
pub record DiskState : Type 0 where
  pub past : List Past
  pub failing : List ℕ
  pub room : ℕ
  pub calls_left : ℕ
  pub faults : ℕ

-- what the disk reads as, after these calls
abbrev pub bytes_after : List Past → List ℕ
bytes_after [] = []
bytes_after (looked ∷ past) = bytes_after past
bytes_after (synced ∷ past) = bytes_after past
bytes_after (wrote at piece done ∷ past) =
    if done then overwritten at piece (bytes_after past) else bytes_after past

-- what a crash may leave after these calls: what the disk reads as, or what a torn write makes of
-- an image that it might have left before
abbrev pub MayLeave : List Past → List ℕ → Type 0
MayLeave [] c = c ≡ []
MayLeave (looked ∷ past) c = MayLeave past c
MayLeave (synced ∷ past) c = c ≡ bytes_after past
MayLeave (wrote at piece done ∷ past) c = (c ≡ bytes_after (wrote at piece done ∷ past))
    ⊎ ((d : List ℕ) × MayLeave past d × Torn at (length piece) d c)

-- what a crash might have left at some moment since these many calls were made
abbrev pub LeftSince : List Past → ℕ → List ℕ → Type 0
LeftSince [] t c = MayLeave [] c
LeftSince (call ∷ past) t c = MayLeave (call ∷ past) c ⊎ ((t ≤ length past) × LeftSince past t c)

-- ---- how the calls are kept: each with how much it wrote, and all pieces behind one another

-- how much was written in all
abbrev pub total : List Call → ℕ
total [] = 0
total (Looked ∷ calls) = total calls
total (Synced ∷ calls) = total calls
total (Wrote at len done ∷ calls) = len + total calls

-- the calls, the oldest first, with their pieces
abbrev pub with_pieces : List Call → List ℕ → List Past
with_pieces [] pieces = []
with_pieces (Looked ∷ calls) pieces = looked ∷ with_pieces calls pieces
with_pieces (Synced ∷ calls) pieces = synced ∷ with_pieces calls pieces
with_pieces (Wrote at len done ∷ calls) pieces =
    wrote at (take len pieces) done ∷ with_pieces calls (drop len pieces)

abbrev pub past_of : List Call → List ℕ → List Past
past_of calls pieces = reverse (with_pieces calls pieces)

-- ---- what a call changes

-- a call was made
abbrev pub made : Past → DiskState → DiskState
made call d = record d { past = call ∷ d.past; calls_left = d.calls_left - 1 }

-- a call failed and changed nothing; it is kept where there was room
abbrev pub refused : DiskState → DiskState
refused d = record (if d.calls_left == 0 then d else made looked d) {
  faults = count_more d.faults;
}

-- ---- which calls fail

-- the next call is to fail, or there is no room for it
abbrev pub FailsCall : DiskState → Type 0
FailsCall d = Contains d.failing (length d.past + 1) ⊎ (d.calls_left ≡ 0)

-- the next write of a piece fails
abbrev pub FailsWrite : DiskState → List ℕ → Type 0
FailsWrite d piece = FailsCall d ⊎ (d.room < length piece)

-- ---- the laws of a disk

pub stays : (past : List Past) → MayLeave past (bytes_after past)
stays [] = refl
stays (looked ∷ past) = stays past
stays (synced ∷ past) = refl
stays (wrote at piece done ∷ past) = inl refl

pub may_stay : (past : List Past) → MayStay (Some (bytes_after past)) (MayLeave past)
may_stay past = stays past

pub counts_now : (past : List Past) (t : ℕ) (c : List ℕ) → t ≤ length past → MayLeave past c
    → LeftSince past t c
counts_now [] t c le now = now
counts_now (call ∷ past) t c le now = inl now

pub only_now : (past : List Past) (c : List ℕ) → LeftSince past (length past) c → MayLeave past c
only_now [] c left = left
only_now (call ∷ past) c (inl now) = now
only_now (call ∷ past) c (inr earlier) = absurd (too_late (length past) earlier.0)
  where
    too_late : (n : ℕ) → suc n ≤ n → ⊥
    too_late n le = omega arith
