-- What is found on a disk.
use Rattle.std.specs.Prelude.{ℕ, ◌<◌, Bool, true, false, List, Option, Some, None, Result, Ok, Err, ⊤}
use Rattle.df_disk.specs.Records.{IsEmpty}
use Rattle.df_disk.specs.declared.image.NotTaken.{NotTaken}
use Rattle.df_disk.specs.declared.image.NotTaken.TheVariants as taken
use Rattle.df_image.specs.Front.{IsFront, KeepsTo}
use Rattle.df_image.specs.Image.{BreaksAt, IsDamagedAt}
use Rattle.df_durable.specs.declared.cause.OpenCause.{OpenCause}
use Rattle.df_durable.specs.declared.cause.OpenCause.TheVariants.{DiskFault, Damaged, NoMemory}
use Rattle.df_durable.specs.declared.keeping.KeptCore.{KeptCore}

-- one more record was taken, and the gate is further on; or there was none more
abbrev pub IsTaken : List ℕ → KeptCore → KeptCore → Bool → Type 0
IsTaken image old new true = (old.gate < new.gate) × IsFront image new.core new.gate
IsTaken image old new false = KeepsTo image new.core new.gate

-- the image breaks at this gate, or there was no memory
abbrev pub IsBreak : List ℕ → OpenCause → Type 0
IsBreak image (Damaged place) = BreaksAt place image
IsBreak image DiskFault = ⊥
IsBreak image NoMemory = ⊤

-- the image is empty, or keeps this, or is damaged; only a disk gives a fault
abbrev pub IsOf : List ℕ → Result (Option KeptCore) OpenCause → Type 0
IsOf image (Ok None) = IsEmpty image
IsOf image (Ok (Some kept)) = KeepsTo image kept.core kept.gate
IsOf image (Err (Damaged place)) = IsDamagedAt place image
IsOf image (Err DiskFault) = ⊤
IsOf image (Err NoMemory) = ⊤

-- this holds where the image was read and judged
abbrev pub IfRead : Result (Option KeptCore) OpenCause → Type 0 → Type 0
IfRead (Ok found) P = P
IfRead (Err (Damaged place)) P = P
IfRead (Err DiskFault) P = ⊤
IfRead (Err NoMemory) P = ⊤

-- why no image was taken
abbrev pub not_taken : NotTaken → OpenCause
not_taken taken.Fault = DiskFault
not_taken taken.NoMemory = NoMemory
