-- What the image of a kept journal stands for.
use Rattle.std.specs.Prelude.{◌≡◌, ◌≢◌, ◌⊎◌, ℕ, List, [], ◌∷◌, ◌++◌, length, map, reverse, None}
use Rattle.df_disk.specs.Records.{IsEmpty, Keeps, opened, record_text}
use Rattle.df_journal_file.specs.Journal.{IsPlainJournal, IsWholeEntry, plain_text}
use Rattle.df_journal_text.specs.Entry.{entry_text}
use Rattle.df_journal_text.specs.Fits.{AreRoots}
use Rattle.df_rules.specs.Legal.{IsRight, Legal}
use Rattle.df_rules.specs.Start.{rows, roots}
use Rattle.df_start.specs.Begun.{begun}
use Rattle.df_start.specs.declared.start.RootStart.{RootStart}
use Rattle.df_unit.specs.declared.entry.Entry.{Entry}

-- a start and a journal, the newest entry first
abbrev pub State : Type 0
State = List RootStart × List Entry

-- an entry is the answer that the rules give after this start and this journal
abbrev pub IsNext : State → Entry → Type 0
IsNext core entry = IsRight rows (roots (map begun core.0)) core.1 entry

-- the first record: a journal in its first version, with this start and no entry
abbrev pub start_record : List RootStart → List ℕ
start_record roots = plain_text roots []

-- the record of an entry: its lines in a journal in its first version
abbrev pub entry_record : Entry → List ℕ
entry_record entry = entry_text None entry

-- the records of a start and a journal whose newest entry stands first
abbrev pub records_of : State → List (List ℕ)
records_of core = start_record core.0 ∷ map entry_record (reverse core.1)

-- the start and the entries have a spelling, and the journal is legal
pub record IsKept (core : State) : Type 0 where
  pub spelled : IsPlainJournal core.0 (reverse core.1)
  pub legal : Legal rows (roots (map begun core.0)) core.1

-- the image keeps just this start and this journal
pub record KeepsJournal (core : State) (image : List ℕ) : Type 0 where
  pub kept : IsKept core
  pub keeps : Keeps (records_of core) image

-- ---- damage

-- behind an open gate stands no whole record of a start, with a gate behind it
abbrev pub LacksStart : List ℕ → Type 0
LacksStart here = (roots : List RootStart) (next : ℕ) (more : List ℕ) → AreRoots roots →
    here ≢ 1 ∷ record_text (start_record roots) ++ next ∷ more

-- behind an open gate stands no whole record of an entry that is the answer after these entries,
-- with a gate behind it
abbrev pub LacksEntry : State → List ℕ → Type 0
LacksEntry core here = (entry : Entry) (next : ℕ) (more : List ℕ) → IsWholeEntry entry →
    IsNext core entry → here ≢ 1 ∷ record_text (entry_record entry) ++ next ∷ more

-- the first gate is open, and behind it stands no whole record of a start
pub record BreaksFirst (place : ℕ) (image : List ℕ) : Type 0 where
  pub at : place ≡ 0
  pub lacks : LacksStart image

-- up to the gate at this place the image keeps a start and a legal journal; the gate is open, and
-- the record behind it breaks off, or isn't what has to stand there
pub record BreaksBehind (place : ℕ) (image : List ℕ) : Type 0 where
  pub core : State
  pub rest : List ℕ
  pub kept : IsKept core
  pub split : image ≡ opened (records_of core) ++ 1 ∷ rest
  pub at : place ≡ length (opened (records_of core))
  pub lacks : LacksEntry core (1 ∷ rest)

-- the image breaks at the gate at this place
abbrev pub BreaksAt : ℕ → List ℕ → Type 0
BreaksAt place image = BreaksFirst place image ⊎ BreaksBehind place image

-- the image isn't empty, and breaks at this gate first
pub record IsDamagedAt (place : ℕ) (image : List ℕ) : Type 0 where
  pub some : ¬ IsEmpty image
  pub breaks : BreaksAt place image
