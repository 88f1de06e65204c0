-- What a store is made of.
use Rattle.std.specs.Prelude.{◌≡◌, ℕ, false, List, Option, IfSome, ⊤}
use Rattle.df_disk.specs.Disk.{IsSettled, Recedes}
use Rattle.df_disk.specs.Records.{IsEmpty}
use Rattle.df_image.specs.Image.{IsDamagedAt, KeepsJournal}
use Rattle.df_durable.specs.declared.cause.NotKept.{NotKept}
use Rattle.df_durable.specs.declared.cause.NotKept.TheVariants as kept
use Rattle.df_durable.specs.declared.cause.OpenCause.{OpenCause}
use Rattle.df_durable.specs.declared.cause.OpenCause.TheVariants as cause
use Rattle.df_durable.specs.declared.cause.StepCause.{StepCause}
use Rattle.df_durable.specs.declared.cause.StepCause.TheVariants as step
use Rattle.df_durable.specs.declared.stored.Opened.{Opened}
use Rattle.df_durable.specs.declared.stored.Opened.TheVariants.{Empty, Kept}
use Rattle.df_io.specs.Faults.{Rose}

-- what was found on a disk: its bytes are as they were and nothing is pending, and they are empty
-- or keep the start and the journal of the store
abbrev pub IsFoundOn : {D : Type 0} → (D → Option (List ℕ)) → (D → List ℕ → Type 0) → (D → ℕ)
    → (D → ℕ → List ℕ → Type 0) → D → Opened D → Type 0
IsFoundOn told may_leave moment left_since old (Empty new) = IfSome (told old) IsEmpty
    × (told new ≡ told old) × IsSettled (told new) (may_leave new)
    × Recedes (moment old) (moment new) (left_since old) (left_since new)
IsFoundOn told may_leave moment left_since old (Kept store) =
    IfSome (told old) (KeepsJournal store.core) × (store.closed ≡ false)
    × (told store.disk ≡ told old) × IsSettled (told store.disk) (may_leave store.disk)
    × Recedes (moment old) (moment store.disk) (left_since old) (left_since store.disk)

-- why nothing was found
abbrev pub IsRefusal : ℕ → ℕ → Option (List ℕ) → OpenCause → Type 0
IsRefusal before now told cause.DiskFault = Rose before now
IsRefusal before now told (cause.Damaged place) = IfSome told (IsDamagedAt place)
IsRefusal before now told cause.NoMemory = ⊤

-- why no store was created
abbrev pub not_created : NotKept → OpenCause
not_created kept.Fault = cause.DiskFault
not_created kept.NoMemory = cause.NoMemory

-- why a step was not made
abbrev pub not_stepped : NotKept → StepCause
not_stepped kept.Fault = step.DiskFault
not_stepped kept.NoMemory = step.NoMemory
