-- What is put on a disk.
use Rattle.std.specs.Prelude.{◌≡◌, ◌⊎◌, ℕ, ◌+◌, List, [], ◌∷◌, ◌++◌, length, Option, None, ⊤}
use Rattle.df_disk.specs.Records.{IsAtRest, IsEmpty, Keeps, frame_text}
use Rattle.df_image.specs.Image.{IsKept, KeepsJournal, records_of}
use Rattle.df_durable.specs.declared.cause.NotKept.{NotKept}
use Rattle.df_durable.specs.declared.cause.NotKept.TheVariants as kept
use Rattle.df_durable.specs.declared.keeping.KeptCore.{KeptCore}
use Rattle.df_io.specs.Faults.{Rose}
use Rattle.df_machine.specs.Journal.{State, appended, firsts}
use Rattle.df_rules.specs.Legal.{answered}
use Rattle.df_rules.specs.Start.{rows}
use Rattle.df_start.specs.declared.start.RootStart.{RootStart}
use Rattle.df_unit.specs.declared.call.Call.{Call}
use Rattle.df_unit.specs.declared.entry.Entry.{Entry}
use Rattle.df_unit.specs.declared.name.UnitName.{UnitName}

-- where the disk tells its bytes, they keep the machine's start and journal, the closed gate is at
-- its place, and nothing is pending
pub record IsOnDisk {D : Type 0} (told : D → Option (List ℕ)) (may_leave : D → List ℕ → Type 0)
    (disk : D) (on : KeptCore) : Type 0 where
  pub kept : IsKept on.core
  pub rests : (told disk ≡ None) ⊎ IsAtRest told may_leave disk (records_of on.core) on.gate

-- a record was appended behind the gate at a place, and this is the place of the next gate
pub record AppendsTo {D : Type 0} (told : D → Option (List ℕ)) (may_leave : D → List ℕ → Type 0)
    (old new : D) (gate : ℕ) (bytes : List ℕ) (next : ℕ) : Type 0 where
  pub further : next ≡ gate + length (frame_text bytes)
  pub rests : (records : List (List ℕ)) → IsAtRest told may_leave old records gate →
      IsAtRest told may_leave new (records ++ bytes ∷ []) next

-- a fault is answered only where the count of faults rose
abbrev pub HasCause : ℕ → ℕ → NotKept → Type 0
HasCause before now kept.Fault = Rose before now
HasCause before now kept.NoMemory = ⊤

-- the entry of a call: the answer that the rules give to it
abbrev pub next_entry : UnitName → Call → State → Entry
next_entry actor call core = answered rows (firsts core.0) core.1 actor call

-- the machine is as before the call, or after it
abbrev pub IsBeforeOrAfter : UnitName → Call → State → State → Type 0
IsBeforeOrAfter actor call old new = (new ≡ old) ⊎ (new ≡ appended actor call old)

-- an image that is empty, or keeps just this record
abbrev pub IsEmptyOrFirst : List ℕ → List ℕ → Type 0
IsEmptyOrFirst bytes image = IsEmpty image ⊎ Keeps (bytes ∷ []) image

-- an image that is empty, or keeps this start and no entry
abbrev pub IsEmptyOrStarted : List RootStart → List ℕ → Type 0
IsEmptyOrStarted roots image = IsEmpty image ⊎ KeepsJournal (roots, []) image

-- an image with this journal, or with the entry of this call too
abbrev pub KeepsBeforeOrAfter : State → UnitName → Call → List ℕ → Type 0
KeepsBeforeOrAfter core actor call image =
    KeepsJournal core image ⊎ KeepsJournal (appended actor call core) image
