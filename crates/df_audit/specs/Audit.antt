-- What an audit makes of a kept journal.
use Rattle.std.specs.Prelude.{◌≡◌, ℕ, ◌<◌, ◌≤◌, List, [], ◌∷◌, ◌++◌, None, codes, decimal, length, map, reverse, slice_get}
use Rattle.df_label.specs.declared.label.Label.{Label}
use Rattle.df_machine.specs.Journal.{firsts}
use Rattle.df_rules.specs.Legal.{Legal}
use Rattle.df_rules.specs.Purge.{purge}
use Rattle.df_rules.specs.Separates.{Separates}
use Rattle.df_rules.specs.Start.{rows}
use Rattle.df_start.specs.declared.start.RootStart.{RootStart}
use Rattle.df_unit.specs.declared.entry.Entry.{Entry}
use Rattle.df_unit.specs.declared.entry.Noted.{Noted}
use Rattle.df_replay.specs.Noted.{AreRight, noted}
use Rattle.df_why.specs.Grounds.{IsGrounds, at_places}
use Rattle.df_check.specs.Check as plain
use Rattle.df_check.specs.CheckNoted as with_notes
use Rattle.df_journal_text.specs.Entry.{entry_text, noted_text}
use Rattle.df_journal_text.specs.Line.{line}
use Rattle.df_journal_text.specs.Start.{journal_text}
use Rattle.df_journal_file.specs.Either.{First, IsJournalOf, Journal, Second}
use Rattle.df_audit.specs.Sound.{IsSound}
use Rattle.df_audit.specs.declared.audit.Finding.{Finding}
use Rattle.df_audit.specs.declared.audit.Finding.TheVariants.{Right, Wrong, NoPlace}

-- ---- a journal in one of its versions

abbrev pub roots_in : Journal → List RootStart
roots_in (First start entries) = start
roots_in (Second start notes) = start

-- its entries, the oldest first
abbrev pub entries_in : Journal → List Entry
entries_in (First start entries) = entries
entries_in (Second start notes) = map (λ n. n.entry) notes

-- the same, the newest first
abbrev pub past_in : Journal → List Entry
past_in journal = reverse (entries_in journal)

-- each entry is what the rules give, and so is each contamination that is noted
abbrev pub IsRightJournal : Journal → Type 0
IsRightJournal (First start entries) = Legal rows (firsts start) (reverse entries)
IsRightJournal (Second start notes) = AreRight start notes

-- the first place where they aren't, counted from 0
abbrev pub IsWrongAt : Journal → ℕ → Type 0
IsWrongAt (First start entries) place =
    (expected : Entry) × plain.IsFirstWrong start entries place expected
IsWrongAt (Second start notes) place =
    (expected : Noted) × with_notes.IsFirstWrong start notes place expected

-- the journal is right, and has a place
abbrev pub HasPlace : ℕ → Journal → Type 0
HasPlace place journal = IsRightJournal journal × (place < length (entries_in journal))

-- the journal is right, and has so many entries and not a place
abbrev pub LacksPlace : ℕ → ℕ → Journal → Type 0
LacksPlace place count journal =
    IsRightJournal journal × (count ≡ length (entries_in journal)) × (count ≤ place)

-- ---- texts

-- what is told of a right journal with so many entries
abbrev pub valid_text : ℕ → List ℕ
valid_text count = line (codes "valid") (decimal count ∷ [])

-- what is told of a wrong place: the lines that are kept there, and those that the rules give
abbrev pub wrong_text : ℕ → List ℕ → List ℕ → List ℕ
wrong_text place kept expected = line (codes "wrong") (decimal place ∷ [])
    ++ line (codes "kept") [] ++ kept ++ line (codes "expected") [] ++ expected

-- a journal in its second version: each entry with the contamination that its actor has before it
abbrev pub noted_journal : List RootStart → List Entry → List ℕ
noted_journal roots past = journal_text roots (noted roots past)

-- ---- what an audit finds and tells

-- a check of a journal in its first version: the text says that it is right, or tells of the first
-- wrong place
abbrev pub IsCheckOfFirst : List RootStart → List Entry → Finding → List ℕ → Type 0
IsCheckOfFirst roots entries Right text = Legal rows (firsts roots) (reverse entries)
    × (text ≡ valid_text (length entries))
IsCheckOfFirst roots entries (Wrong place) text =
    (expected : Entry) × (at : plain.IsFirstWrong roots entries place expected)
    × (text ≡ wrong_text place (entry_text None at.kept) (entry_text None expected))
IsCheckOfFirst roots entries (NoPlace count) text = ⊥

-- the same in its second version
abbrev pub IsCheckOfSecond : List RootStart → List Noted → Finding → List ℕ → Type 0
IsCheckOfSecond roots notes Right text = AreRight roots notes × (text ≡ valid_text (length notes))
IsCheckOfSecond roots notes (Wrong place) text =
    (expected : Noted) × (at : with_notes.IsFirstWrong roots notes place expected)
    × (text ≡ wrong_text place (noted_text at.kept) (noted_text expected))
IsCheckOfSecond roots notes (NoPlace count) text = ⊥

-- a check says whether the journal is right
abbrev pub IsCheckOf : Journal → Finding → List ℕ → Type 0
IsCheckOf (First start entries) finding text = IsCheckOfFirst start entries finding text
IsCheckOf (Second start notes) finding text = IsCheckOfSecond start notes finding text

-- what a purge leaves of the entries
abbrev pub purged_in : Label → Journal → List Entry
purged_in label journal = purge rows (firsts (roots_in journal)) label (past_in journal)

-- the text is that of the purge of a right journal; units within the label lose nothing by it, what
-- is left of the others was emitted by privileges, and the purge itself is sound
pub record IsPurgeOf (label : Label) (journal : Journal) (text : List ℕ) : Type 0 where
  pub right : IsRightJournal journal
  pub told : text ≡ noted_journal (roots_in journal) (purged_in label journal)
  pub separates : Separates rows (firsts (roots_in journal)) (past_in journal) label
  pub sound : IsSound (firsts (roots_in journal)) (purged_in label journal)

-- the text is that of a right journal in its second version
pub record IsUpgradeOf (journal : Journal) (text : List ℕ) : Type 0 where
  pub right : IsRightJournal journal
  pub told : text ≡ noted_journal (roots_in journal) (past_in journal)
  pub sound : IsSound (firsts (roots_in journal)) (past_in journal)

-- the entries of a journal at these places, the newest first
abbrev pub entries_at : List ℕ → Journal → List Entry
entries_at places journal = reverse (at_places places (entries_in journal))

-- the text is that of the grounds of an entry of a right journal: of the entry at the place and
-- those on which it rests, and no others. They are a sound journal, and the newest is that entry
pub record IsWhyOf (place : ℕ) (journal : Journal) (text : List ℕ) : Type 0 where
  pub has : HasPlace place journal
  pub places : List ℕ
  pub grounds : IsGrounds rows (firsts (roots_in journal)) (past_in journal) place places
  pub told : text ≡ noted_journal (roots_in journal) (entries_at places journal)
  pub last : slice_get (entries_at places journal) 0 ≡ slice_get (entries_in journal) place
  pub sound : IsSound (firsts (roots_in journal)) (entries_at places journal)

-- of a right journal without the place nothing is told but the number of its entries
pub record TellsCount (place : ℕ) (journal : Journal) (count : ℕ) (text : List ℕ) : Type 0 where
  pub lacks : LacksPlace place count journal
  pub silent : text ≡ []

-- of a wrong journal nothing is told but the place
pub record TellsPlace (journal : Journal) (place : ℕ) (text : List ℕ) : Type 0 where
  pub wrong : IsWrongAt journal place
  pub silent : text ≡ []

-- a purge of a right journal, or its first wrong place
abbrev pub Purges : Label → Journal → Finding → List ℕ → Type 0
Purges label journal Right text = IsPurgeOf label journal text
Purges label journal (Wrong place) text = TellsPlace journal place text
Purges label journal (NoPlace count) text = ⊥

-- a right journal in its second version, or its first wrong place
abbrev pub Upgrades : Journal → Finding → List ℕ → Type 0
Upgrades journal Right text = IsUpgradeOf journal text
Upgrades journal (Wrong place) text = TellsPlace journal place text
Upgrades journal (NoPlace count) text = ⊥

-- why the entry at a place of a right journal stands, or the journal's first wrong place, or how
-- many entries it has
abbrev pub Explains : ℕ → Journal → Finding → List ℕ → Type 0
Explains place journal Right text = IsWhyOf place journal text
Explains place journal (Wrong first) text = TellsPlace journal first text
Explains place journal (NoPlace count) text = TellsCount place journal count text

-- the bytes are a journal of which this holds
abbrev pub OfJournal : List ℕ → (Journal → Type 0) → Type 0
OfJournal bytes P = (journal : Journal) × IsJournalOf journal bytes × P journal
