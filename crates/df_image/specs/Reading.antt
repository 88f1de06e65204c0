-- What the bytes of a record are.
use Rattle.std.specs.Prelude.{◌≡◌, ◌≢◌, ℕ, List, Option, Some, None}
use Rattle.df_image.specs.Image.{entry_record, start_record}
use Rattle.df_journal_file.specs.Journal.{IsWholeEntry}
use Rattle.df_journal_text.specs.Fits.{AreRoots}
use Rattle.df_start.specs.declared.start.RootStart.{RootStart}
use Rattle.df_unit.specs.declared.entry.Entry.{Entry}

-- a record is of this start, and of no other
pub record IsOneStart (bytes : List ℕ) (roots : List RootStart) : Type 0 where
  pub fits : AreRoots roots
  pub is : bytes ≡ start_record roots
  pub one : (others : List RootStart) → AreRoots others → bytes ≡ start_record others →
      others ≡ roots

-- a record is of no start
pub record IsNoStart (bytes : List ℕ) : Type 0 where
  pub none : (roots : List RootStart) → AreRoots roots → bytes ≢ start_record roots

-- the one start of which a record is, or none, where it is of none
abbrev pub TellsStart : List ℕ → Option (List RootStart) → Type 0
TellsStart bytes (Some roots) = IsOneStart bytes roots
TellsStart bytes None = IsNoStart bytes

-- a record is of this entry, and of no other
pub record IsOneEntry (bytes : List ℕ) (entry : Entry) : Type 0 where
  pub fits : IsWholeEntry entry
  pub is : bytes ≡ entry_record entry
  pub one : (other : Entry) → IsWholeEntry other → bytes ≡ entry_record other → other ≡ entry

-- a record is of no entry
pub record IsNoEntry (bytes : List ℕ) : Type 0 where
  pub none : (entry : Entry) → IsWholeEntry entry → bytes ≢ entry_record entry

-- the one entry of which a record is, or none, where it is of none
abbrev pub TellsEntry : List ℕ → Option Entry → Type 0
TellsEntry bytes (Some entry) = IsOneEntry bytes entry
TellsEntry bytes None = IsNoEntry bytes

-- an entry that has a spelling, and is the one of which the bytes are the record, if there is one
pub record IsLast (bytes : List ℕ) (entry : Entry) : Type 0 where
  pub fits : IsWholeEntry entry
  pub one : (other : Entry) → IsWholeEntry other → bytes ≡ entry_record other → other ≡ entry

-- what the bytes may be the record of, or nothing
abbrev pub TellsLast : List ℕ → Option Entry → Type 0
TellsLast bytes (Some entry) = IsLast bytes entry
TellsLast bytes None = IsNoEntry bytes

-- the bytes are the record of this start, which has a spelling
pub record IsStartRecord (roots : List RootStart) (bytes : List ℕ) : Type 0 where
  pub fits : AreRoots roots
  pub is : bytes ≡ start_record roots

-- the bytes are the record of this entry, which has a spelling
pub record IsEntryRecord (entry : Entry) (bytes : List ℕ) : Type 0 where
  pub fits : IsWholeEntry entry
  pub is : bytes ≡ entry_record entry
