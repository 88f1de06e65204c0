-- When each status comes, and what is stored and written then. `script` is what the shelf tells to
-- be in the script's file, and `store` what the disk tells to be in the store.
use Rattle.std.specs.Prelude.{◌≡◌, ◌≢◌, ◌⊎◌, ⊤, ℕ, ◌<◌, ◌≤◌, List, [], ◌∷◌, ◌++◌, codes, decimal, length, Option, Some, IfSome}
use Rattle.df_image.specs.Image.{IsDamagedAt, KeepsJournal}
use Rattle.df_durable.specs.StoredState.{Holds}
use Rattle.df_io.specs.Faults.{Rose}
use Rattle.df_io.specs.Limits.{longest_file}
use Rattle.df_io.specs.Pieces.{HasAll, HasFront}
use Rattle.df_keep.specs.Kept.{BeginsWith, followed}
use Rattle.df_keep.specs.Script.{IsToldScript, NamesNothing, NamesScript, ReadsScript, WasRead}
use Rattle.df_keep.specs.declared.status.KeepStatus.{KeepStatus}
use Rattle.df_keep.specs.declared.status.KeepStatus.TheVariants as status
use Rattle.df_lines.specs.Kinds.{refused_line}
use Rattle.df_lines.specs.Refused.{NamesBadLine}
use Rattle.df_machine.specs.Journal.{State}
use Rattle.df_script_text.specs.Script.{IsScriptText}
use Rattle.df_script_text.specs.TooLarge.{IsTooLargeIn}
use Rattle.df_script_text.specs.declared.line.ScriptLine.{ScriptLine}
use Rattle.df_start.specs.declared.start.RootStart.{RootStart}

-- ---- words and script

-- this holds of the script's name, where the words name a script and a store
abbrev pub IfNamed : List (List ℕ) → (List ℕ → Type 0) → Type 0
IfNamed words P = (name : List ℕ) → NamesScript words name → P name

-- Usage comes exactly where the words name no script and store
abbrev pub UsageIsExact : List (List ℕ) → KeepStatus → Type 0
UsageIsExact words result =
    (result ≡ status.Usage → NamesNothing words) × (NamesNothing words → result ≡ status.Usage)

-- the status is one of a run with a script and a store
abbrev pub IsOfARun : KeepStatus → Type 0
IsOfARun result = ¬ (result ≡ status.Usage)

-- the run was cut off while the script was read, or for want of memory
abbrev pub IsCutOff : KeepStatus → Type 0
IsCutOff result = (result ≡ status.ReadFault) ⊎ (result ≡ status.NoMemory)

-- the run was cut off, or the disk failed
abbrev pub IsStopped : KeepStatus → Type 0
IsStopped result = (result ≡ status.DiskFault) ⊎ IsCutOff result

-- BadInput blames the script, which was read whole, and its first bad line
abbrev pub BadInputIsDue : Option (List ℕ) → KeepStatus → Type 0
BadInputIsDue script (status.BadInput input line kind) =
    (input ≡ 1) × ((bytes : List ℕ) × WasRead script bytes
    × NamesBadLine IsScriptText IsTooLargeIn bytes (refused_line line kind))
BadInputIsDue script _ = ⊤

-- the status is BadInput
abbrev pub IsBadInput : KeepStatus → Type 0
IsBadInput (status.BadInput input line kind) = ⊤
IsBadInput _ = ⊥

-- BadInput comes exactly where the script's file, read whole, is no script
abbrev pub BadInputIsExact : Option (List ℕ) → KeepStatus → Type 0
BadInputIsExact script result = BadInputIsDue script result
    × ((bytes : List ℕ) → script ≡ Some bytes → length bytes ≤ longest_file
    → ¬ IsScriptText bytes → IsBadInput result ⊎ IsCutOff result)

-- TooLong names the script, which has a byte too many where it is told
abbrev pub TooLongIsDue : Option (List ℕ) → KeepStatus → Type 0
TooLongIsDue script (status.TooLong input) =
    (input ≡ 1) × IfSome script (λ bytes. longest_file < length bytes)
TooLongIsDue script _ = ⊤

-- TooLong comes exactly where the script's file has a byte too many
abbrev pub TooLongIsExact : Option (List ℕ) → KeepStatus → Type 0
TooLongIsExact script result = TooLongIsDue script result
    × ((bytes : List ℕ) → script ≡ Some bytes → longest_file < length bytes
    → (result ≡ status.TooLong 1) ⊎ IsCutOff result)

-- ---- faults

-- ReadFault comes only where the shelf's count of faults rose
abbrev pub ReadFaultIsDue : ℕ → ℕ → KeepStatus → Type 0
ReadFaultIsDue before now result = result ≡ status.ReadFault → Rose before now

-- WriteFault comes only where the sink's count of faults rose
abbrev pub WriteFaultIsDue : ℕ → ℕ → KeepStatus → Type 0
WriteFaultIsDue before now result = result ≡ status.WriteFault → Rose before now

-- DiskFault comes only where the disk's count of faults rose
abbrev pub DiskFaultIsDue : ℕ → ℕ → KeepStatus → Type 0
DiskFaultIsDue before now result = result ≡ status.DiskFault → Rose before now

-- ---- the store

-- a script was read, and this holds of it
abbrev pub OfScript : Option (List ℕ) → (List RootStart → List ScriptLine → Type 0) → Type 0
OfScript script P = (roots : List RootStart) × (lines : List ScriptLine)
    × ReadsScript script roots lines × P roots lines

-- the script's file is told to be a script, and the store to be an image; then this holds
abbrev pub IfBothTold : Option (List ℕ) → Option (List ℕ)
    → (List RootStart → List ScriptLine → List ℕ → Type 0) → Type 0
IfBothTold script store P = (roots : List RootStart) (lines : List ScriptLine) (image : List ℕ)
    → IsToldScript script roots lines → store ≡ Some image → P roots lines image

-- Damaged names the gate at which the store breaks first, and comes behind a script
abbrev pub DamagedIsDue : Option (List ℕ) → Option (List ℕ) → KeepStatus → Type 0
DamagedIsDue script store (status.Damaged place) =
    OfScript script (λ roots lines. IfSome store (IsDamagedAt place))
DamagedIsDue script store _ = ⊤

-- Damaged comes exactly where the store isn't empty and breaks, and names its first such gate
abbrev pub DamagedIsExact : Option (List ℕ) → Option (List ℕ) → KeepStatus → Type 0
DamagedIsExact script store result = DamagedIsDue script store result
    × IfBothTold script store (λ roots lines image. (place : ℕ) → IsDamagedAt place image
    → (result ≡ status.Damaged place) ⊎ IsStopped result)

-- the image keeps a journal of another start
abbrev pub HasOtherStart : List RootStart → List ℕ → Type 0
HasOtherStart roots image = (core : State) × KeepsJournal core image × (core.0 ≢ roots)

-- StartDiffers comes behind a script, where the store keeps another start
abbrev pub StartDiffersIsDue : Option (List ℕ) → Option (List ℕ) → KeepStatus → Type 0
StartDiffersIsDue script store result = result ≡ status.StartDiffers
    → OfScript script (λ roots lines. IfSome store (HasOtherStart roots))

-- StartDiffers comes exactly where the store keeps another start than the script's
abbrev pub StartDiffersIsExact : Option (List ℕ) → Option (List ℕ) → KeepStatus → Type 0
StartDiffersIsExact script store result = StartDiffersIsDue script store result
    × IfBothTold script store (λ roots lines image. HasOtherStart roots image
    → (result ≡ status.StartDiffers) ⊎ IsStopped result)

-- ---- what is done

-- what is written: how many entries the kept journal has
abbrev pub kept_text : ℕ → List ℕ
kept_text count = codes "kept " ++ decimal count ++ 10 ∷ []

-- the store keeps what it began with, and behind it the entries of the script's calls
abbrev pub StoresAll : {D : Type 0} → (D → Option (List ℕ)) → (D → List ℕ → Type 0)
    → Option (List ℕ) → D → D → State → Type 0
StoresAll told may_leave script old new core =
    OfScript script (λ roots lines. IfSome (told old) (λ image. (first : State)
    × BeginsWith roots image first × (core ≡ followed first lines)
    × Holds told may_leave new core))

-- after Done all is stored and the number of the entries was written, after WriteFault a front of
-- it was, and after any other status nothing was written
abbrev pub Ends : (State → Type 0) → Option (List ℕ) → Option (List ℕ) → KeepStatus → Type 0
Ends Stores old new status.Done =
    (core : State) × Stores core × HasAll old (kept_text (length core.1)) new
Ends Stores old new status.WriteFault =
    (core : State) × Stores core × HasFront old (kept_text (length core.1)) new
Ends Stores old new _ = new ≡ old

-- the image is empty, or keeps a journal of this start
abbrev pub IsOpenTo : List RootStart → List ℕ → Type 0
IsOpenTo roots image = (core : State) × BeginsWith roots image core

-- a script and a store that is empty or keeps its start are done: what is left is Done, a fault or
-- want of memory
abbrev pub DoesScript : Option (List ℕ) → Option (List ℕ) → KeepStatus → Type 0
DoesScript script store result =
    IfBothTold script store (λ roots lines image. IsOpenTo roots image
    → (result ≡ status.Done) ⊎ ((result ≡ status.WriteFault) ⊎ IsStopped result))
