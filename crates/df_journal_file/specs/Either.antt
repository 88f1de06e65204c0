-- A journal in one of its two versions.
use Rattle.std.specs.Prelude.{◌≡◌, ℕ, Bool, true, false, List, ◌++◌, map, ◌⊎◌}
use Rattle.df_start.specs.declared.start.RootStart.{RootStart}
use Rattle.df_unit.specs.declared.entry.Entry.{Entry}
use Rattle.df_unit.specs.declared.entry.Noted.{Noted}
use Rattle.df_journal_text.specs.Start.{journal_text}
use Rattle.df_journal_file.specs.Journal.{EndsFile, IsNotedJournal, IsNotedText, IsPlainJournal, IsPlainText, plain_text}
use Rattle.df_journal_file.specs.declared.file.Journal as file
use Rattle.df_journal_file.specs.declared.file.Journal.TheVariants as variant

-- a journal: its version, its roots and its entries
pub data Journal : Type 0 where
  First : List RootStart → List Entry → Journal
  Second : List RootStart → List Noted → Journal

-- the journal of these roots and entries, in its second version or the first, which notes nothing
abbrev pub journal_by : Bool → List RootStart → List Noted → Journal
journal_by true roots notes = Second roots notes
journal_by false roots notes = First roots (map (λ n. n.entry) notes)

-- what was read
abbrev pub journal_in : file.Journal → Journal
journal_in (variant.First start entries) = First start entries.items
journal_in (variant.Second start noted) = Second start noted.items

-- the bytes are a journal in one of its versions
abbrev pub IsEitherText : List ℕ → Type 0
IsEitherText bytes = IsPlainText bytes ⊎ IsNotedText bytes

-- the bytes are this journal
abbrev pub IsJournalOf : Journal → List ℕ → Type 0
IsJournalOf (First roots entries) bytes = IsPlainJournal roots entries
    × ((end : List ℕ) × EndsFile end × (bytes ≡ plain_text roots entries ++ end))
IsJournalOf (Second roots notes) bytes = IsNotedJournal roots notes
    × ((end : List ℕ) × EndsFile end × (bytes ≡ journal_text roots notes ++ end))

-- a journal in its first version, of these roots and entries
abbrev pub IsFirstOf : List RootStart → List Entry → Journal → Type 0
IsFirstOf roots entries (First start read) = (start ≡ roots) × (read ≡ entries)
IsFirstOf roots entries (Second start read) = ⊥

-- a journal in its second version
abbrev pub IsSecondOf : List RootStart → List Noted → Journal → Type 0
IsSecondOf roots noted (First start read) = ⊥
IsSecondOf roots noted (Second start read) = (start ≡ roots) × (read ≡ noted)
