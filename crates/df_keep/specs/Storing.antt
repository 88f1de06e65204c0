-- What is done to the store of a run.
use Rattle.std.specs.Prelude.{◌≡◌, ◌⊎◌, ⊤, ℕ, ◌<◌, ◌^◌, List, [], ◌++◌, length, Option, IfSome, Result, Ok, Err}
use Rattle.df_disk.specs.Records.{IsEmpty}
use Rattle.df_image.specs.Image.{IsDamagedAt, KeepsJournal}
use Rattle.df_durable.specs.StoredState.{Holds}
use Rattle.df_durable.specs.declared.cause.NotKept.{NotKept}
use Rattle.df_durable.specs.declared.cause.NotKept.TheVariants as kept
use Rattle.df_durable.specs.declared.cause.OpenCause.{OpenCause}
use Rattle.df_durable.specs.declared.cause.OpenCause.TheVariants as open_cause
use Rattle.df_io.specs.Faults.{Rose}
use Rattle.df_io.specs.Pieces.{HasAll, HasFront}
use Rattle.df_keep.specs.Kept.{BeginsWith, KeepsFront, followed}
use Rattle.df_keep.specs.Outcome.{HasOtherStart, IsOpenTo, kept_text}
use Rattle.df_keep.specs.declared.script.Script.{Script}
use Rattle.df_keep.specs.declared.status.KeepStatus.{KeepStatus}
use Rattle.df_keep.specs.declared.status.KeepStatus.TheVariants as status
use Rattle.df_machine.specs.Journal.{State}
use Rattle.df_script_text.specs.declared.line.ScriptLine.{ScriptLine}
use Rattle.df_start.specs.declared.start.RootStart.{RootStart}

-- how a run ends where its store wasn't opened
abbrev pub not_opened : OpenCause → KeepStatus
not_opened open_cause.DiskFault = status.DiskFault
not_opened (open_cause.Damaged place) = status.Damaged place
not_opened open_cause.NoMemory = status.NoMemory

-- how a run ends where a record wasn't kept
abbrev pub not_kept : NotKept → KeepStatus
not_kept kept.Fault = status.DiskFault
not_kept kept.NoMemory = status.NoMemory

-- why no further call was made
abbrev pub StopsStepping : ℕ → ℕ → KeepStatus → Type 0
StopsStepping before now status.DiskFault = Rose before now
StopsStepping before now status.NoMemory = ⊤
StopsStepping before now _ = ⊥

-- why a store wasn't opened, or no further call was made
abbrev pub StopsOpening : ℕ → ℕ → KeepStatus → Type 0
StopsOpening before now (status.Damaged place) = ⊤
StopsOpening before now status.StartDiffers = ⊤
StopsOpening before now result = StopsStepping before now result

-- what an image was found to be where it was read: empty or with this start, damaged, or with
-- another start
abbrev pub IsJudged : {T : Type 0} → List RootStart → List ℕ → Result T KeepStatus → Type 0
IsJudged roots image (Ok done) = (length image < 2 ^ 64) × IsOpenTo roots image
IsJudged roots image (Err (status.Damaged place)) =
    (length image < 2 ^ 64) × IsDamagedAt place image
IsJudged roots image (Err status.StartDiffers) =
    (length image < 2 ^ 64) × HasOtherStart roots image
IsJudged roots image (Err _) = ⊤

-- what a crash may leave until a store is opened or created
abbrev pub MayBeBegun : (List ℕ → Type 0) → List RootStart → List ℕ → List ℕ → Type 0
MayBeBegun before roots image c =
    before c ⊎ (IsEmpty image × (IsEmpty c ⊎ KeepsJournal (roots, []) c))

-- the image keeps the entries of the first of the calls behind this journal
abbrev pub KeepsSome : State → List ScriptLine → List ℕ → Type 0
KeepsSome core lines c = (made left : List ScriptLine) × (lines ≡ made ++ left)
    × KeepsJournal (followed core made) c

-- what a crash may leave in a run with this script
abbrev pub MayBeKept : (List ℕ → Type 0) → Script → List ℕ → List ℕ → Type 0
MayBeKept before script image c = before c ⊎ ((IsEmpty image × IsEmpty c)
    ⊎ KeepsFront script.start script.lines.items image c)

-- the store keeps what it began with and the entries of the script's calls, so many in all
abbrev pub Stores : {D : Type 0} → (D → Option (List ℕ)) → (D → List ℕ → Type 0) → Script → D → D
    → ℕ → Type 0
Stores told may_leave script old new count = (core : State) × (count ≡ length core.1)
    × IfSome (told old) (λ image. (first : State) × BeginsWith script.start image first
    × (core ≡ followed first script.lines.items) × Holds told may_leave new core)

-- the number was written, or a front of it; or there was no memory, and nothing was written
abbrev pub IsWritten : Option (List ℕ) → Option (List ℕ) → ℕ → KeepStatus → Type 0
IsWritten old new count status.Done = HasAll old (kept_text count) new
IsWritten old new count status.WriteFault = HasFront old (kept_text count) new
IsWritten old new count status.NoMemory = new ≡ old
IsWritten old new count _ = ⊥
