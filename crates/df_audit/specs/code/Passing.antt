-- A journal that is gone over entry by entry, as far as it is right.
use Rattle.std.specs.Prelude.{◌≡◌, ℕ, ◌<◌, ◌≤◌, ◌^◌, Bool, true, false, List, [], ◌∷◌, ◌++◌, length, Option, None, Some, Result, Ok, Err, ⊤}
use Rattle.std.specs.List.{flat_map}
use Rattle.df_label.specs.declared.label.Label.{Label}
use Rattle.df_memory.specs.declared.NoMemory.{NoMemory}
use Rattle.df_machine.specs.Journal.{State}
use Rattle.df_machine.specs.Tables.{AgreesWith}
use Rattle.df_machine.specs.declared.tables.Tables.{Tables}
use Rattle.df_start.specs.declared.start.RootStart.{RootStart}
use Rattle.df_unit.specs.declared.entry.Noted.{Noted}
use Rattle.df_replay.specs.Noted.{noted, noted_in, past_of}
use Rattle.df_replay.specs.Replay.{Compares, replayed}
use Rattle.df_replay.specs.declared.repeats.Compared.{Compared}
use Rattle.df_replay.specs.declared.repeats.Compared.TheVariants.{Other, Same}
use Rattle.df_purge.specs.code.Left.{left_noted}
use Rattle.df_journal_text.specs.Entry.{noted_text}
use Rattle.df_journal_text.specs.Start.{head_text}
use Rattle.df_journal_file.specs.Cursor.{CursorState, HasPassed}
use Rattle.df_journal_file.specs.Either.{IsJournalOf, Journal, journal_by}
use Rattle.df_audit.specs.Audit.{IsRightJournal, OfJournal, entries_in, past_in, roots_in}
use Rattle.df_audit.specs.declared.pass.Passed.{Passed}
use Rattle.df_audit.specs.declared.pass.Passed.TheVariants as found
use Rattle.df_audit.specs.declared.pass.Wanted.{Wanted}
use Rattle.df_audit.specs.declared.pass.Wanted.TheVariants as wanted

-- the entries that were read are right, and the tables are those behind them
pub record HasComeTo (roots : List RootStart) (read : List Noted) (cursor : CursorState)
    (tables : Tables) : Type 0 where
  pub passed : HasPassed roots read cursor
  pub made : AgreesWith (roots, past_of read) tables
  pub right : IsRightJournal (journal_by cursor.has_notes roots read)

-- one more entry was read, which is right, and this is what is noted of it
pub record PassesOne (roots : List RootStart) (read : List Noted) (given : Noted)
    (old new : CursorState) (tables : Tables) : Type 0 where
  pub kept : Noted
  pub come : HasComeTo roots (read ++ kept ∷ []) new tables
  pub is : given ≡ noted_in (roots, past_of read) kept.entry
  pub further : old.place < new.place
  pub bytes : new.bytes ≡ old.bytes

-- the entries that were read are the whole journal, and it is right
pub record EndsRight (roots : List RootStart) (read : List Noted) (cursor : CursorState) : Type 0
  where
    pub whole : IsJournalOf (journal_by cursor.has_notes roots read) cursor.bytes
    pub right : IsRightJournal (journal_by cursor.has_notes roots read)

-- how it goes on behind these entries; of another entry than the rules give nothing is told
abbrev pub ComesTo : List RootStart → List Noted → CursorState → Passed → CursorState → Tables →
    Type 0
ComesTo roots read old (found.Right given) new tables = PassesOne roots read given old new tables
ComesTo roots read old found.End new tables = EndsRight roots read old
ComesTo roots read old found.Other new tables = ⊤

-- an entry with its contamination, which is the one that is noted where notes stand
abbrev pub TakesNote : Bool → Noted → Option Label → Passed → Type 0
TakesNote has kept contamination (found.Right given) =
    (given ≡ record { entry = kept.entry; contamination = contamination })
    × (has ≡ true → contamination ≡ kept.contamination)
TakesNote has kept contamination found.End = ⊥
TakesNote has kept contamination found.Other = ⊤

-- the same, where this was compared
abbrev pub IsJudged : Bool → Noted → Result Compared NoMemory → Passed → Type 0
IsJudged has kept (Ok (Same contamination)) passed = TakesNote has kept contamination passed
IsJudged has kept (Ok (Other expected)) passed = passed ≡ found.Other
IsJudged has kept (Err refused) passed = ⊥

-- a kept entry that passes is the one that the rules give, and the tables took that in
abbrev pub TakesKept : State → Bool → Noted → Passed → Tables → Type 0
TakesKept core has kept (found.Right given) new = (contamination : Option Label)
    × Compares core kept.entry (Same contamination)
    × TakesNote has kept contamination (found.Right given)
    × AgreesWith (replayed core kept.entry) new
TakesKept core has kept found.End new = ⊥
TakesKept core has kept found.Other new = ⊤

-- what is wanted of a noted entry
abbrev pub wanted_of : Wanted → Noted → List Noted
wanted_of wanted.Count n = []
wanted_of wanted.Notes n = n ∷ []
wanted_of (wanted.Purge label) n = left_noted label.now n

-- what stands in front of that
abbrev pub front_of : Wanted → List RootStart → List ℕ
front_of wanted.Count roots = []
front_of wanted.Notes roots = head_text roots
front_of (wanted.Purge label) roots = head_text roots

-- the text that is wanted of noted entries
abbrev pub wanted_text : Wanted → List RootStart → List Noted → List ℕ
wanted_text w roots notes = front_of w roots ++ flat_map noted_text (flat_map (wanted_of w) notes)

-- the journal is right, has so many entries, and this is the text that is wanted of it
pub record IsMade (w : Wanted) (count : ℕ) (text : List ℕ) (journal : Journal) : Type 0 where
  pub right : IsRightJournal journal
  pub counted : count ≡ length (entries_in journal)
  pub told : text ≡ wanted_text w (roots_in journal) (noted (roots_in journal) (past_in journal))

-- what was read is right, so many entries long, and the text that is wanted of it is written
pub record IsSoFar (w : Wanted) (roots : List RootStart) (bytes : List ℕ) (read : List Noted)
    (cursor : CursorState) (tables : Tables) (count : ℕ) (text : List ℕ) : Type 0 where
  pub come : HasComeTo roots read cursor tables
  pub same : cursor.bytes ≡ bytes
  pub counted : count ≡ length read
  pub few : count ≤ cursor.place
  pub short : length bytes < 2 ^ 64
  pub told : text ≡ wanted_text w roots (noted roots (past_of read))

-- one more entry was taken in; or these are the whole journal, and what is wanted of it is made; of
-- another entry than the rules give nothing is told
abbrev pub TakesOne : Wanted → List RootStart → List ℕ → List Noted → CursorState → Option Bool →
    CursorState → Tables → ℕ → List ℕ → Type 0
TakesOne w roots bytes read old None new tables count text = (old.place < new.place)
    × ((kept : Noted) × IsSoFar w roots bytes (read ++ kept ∷ []) new tables count text)
TakesOne w roots bytes read old (Some true) new tables count text =
    OfJournal bytes (IsMade w count text)
TakesOne w roots bytes read old (Some false) new tables count text = ⊤
