-- An image that is gone through record by record.
use Rattle.std.specs.Prelude.{◌≡◌, ◌≢◌, ℕ, Bool, true, false, List, ◌∷◌, ◌++◌, length}
use Rattle.df_disk.specs.Records.{opened}
use Rattle.df_image.specs.Image.{IsKept, IsNext, KeepsJournal, State, entry_record, records_of}
use Rattle.df_journal_file.specs.Journal.{IsWholeEntry}
use Rattle.df_unit.specs.declared.entry.Entry.{Entry}

-- up to the gate at this place, the image keeps this start and this legal journal
pub record IsFront (image : List ℕ) (core : State) (place : ℕ) : Type 0 where
  pub kept : IsKept core
  pub gate : ℕ
  pub rest : List ℕ
  pub split : image ≡ opened (records_of core) ++ gate ∷ rest
  pub ends : length (opened (records_of core)) ≡ place

-- a record is of an entry that is the answer, which was appended
pub record TakesAnswer (old : State) (bytes : List ℕ) (new : State) : Type 0 where
  pub entry : Entry
  pub whole : IsWholeEntry entry
  pub right : IsNext old entry
  pub is : bytes ≡ entry_record entry
  pub made : new ≡ (old.0, entry ∷ old.1)

-- a record is of no entry that is the answer
pub record TakesNone (old : State) (bytes : List ℕ) : Type 0 where
  pub none : (entry : Entry) → IsWholeEntry entry → IsNext old entry →
      bytes ≢ entry_record entry

-- the answer was taken, or there is none
abbrev pub TakesEntry : State → List ℕ → State → Bool → Type 0
TakesEntry old bytes new true = TakesAnswer old bytes new
TakesEntry old bytes new false = TakesNone old bytes

-- the image keeps this start and this journal, and the closed gate is at this place
pub record KeepsTo (image : List ℕ) (core : State) (place : ℕ) : Type 0 where
  pub keeps : KeepsJournal core image
  pub ends : length (opened (records_of core)) ≡ place
