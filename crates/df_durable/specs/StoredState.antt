-- A store: a journal that is kept on a disk.
use Rattle.std.specs.Prelude.{◌≡◌, ℕ, Bool, false, List, Option, Some, refl}
use Rattle.std.specs.Coded.{Coded, code_by, coded×, coded_bool, coded_list}
use Rattle.df_disk.specs.Disk.{Only}
use Rattle.df_image.specs.Image.{KeepsJournal}
use Rattle.df_durable.specs.Keeping.{IsOnDisk}
use Rattle.df_durable.specs.declared.keeping.KeptCore.{KeptCore}
use Rattle.df_machine.specs.Journal.{State}
use Rattle.df_start.specs.contracts.start.Start as started
use Rattle.df_unit.specs.contracts.entry.Entry as entry

-- the disk, the start and the journal, and whether a step failed
pub record StoredState (D : Type 0) : Type 0 where
  pub disk : D
  pub core : State
  pub closed : Bool

-- a store is stored as its parts
abbrev pub stored_code : {D : Type 0} → Coded D → Coded (StoredState D)
stored_code {D} code =
    code_by (D × (State × Bool))
    (coded× code (coded× (coded× started.the_row.coded (coded_list entry.the_row.coded))
    coded_bool))
    (λ s. (s.disk, (s.core, s.closed)))
    (λ p. record { disk = p.0; core = p.1.0; closed = p.1.1 })
    (λ _. refl)

-- the disk of a store in which no step has failed keeps its machine
abbrev pub IsStored : {D : Type 0} → (D → Option (List ℕ)) → (D → List ℕ → Type 0) → D → KeptCore
    → Bool → Type 0
IsStored told may_leave disk kept closed = closed ≡ false → IsOnDisk told may_leave disk kept

-- the disk tells an image that keeps this start and this journal, and a crash leaves no other image
pub record Holds {D : Type 0} (told : D → Option (List ℕ)) (may_leave : D → List ℕ → Type 0)
    (disk : D) (core : State) : Type 0 where
  pub image : List ℕ
  pub tells : told disk ≡ Some image
  pub keeps : KeepsJournal core image
  pub settled : Only image (may_leave disk)
