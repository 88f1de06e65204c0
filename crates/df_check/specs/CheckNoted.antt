-- What a check says of a journal whose entries are noted with contaminations, the oldest first.
use Rattle.std.specs.Prelude.{◌≡◌, ℕ, List, ◌∷◌, ◌++◌, Option, Some, None, length}
use Rattle.df_machine.specs.Journal.{State}
use Rattle.df_replay.specs.Noted.{AreRight, noted_in, past_of}
use Rattle.df_replay.specs.Replay.{entry_for}
use Rattle.df_start.specs.declared.start.RootStart.{RootStart}
use Rattle.df_unit.specs.declared.entry.Noted.{Noted}
use Rattle.df_check.specs.declared.noted.NotedVerdict.{NotedVerdict}
use Rattle.df_check.specs.declared.noted.NotedVerdict.TheVariants.{Valid, Wrong}

-- what the rules give where a kept entry stands, and the contamination before it
abbrev pub noted_for : State → Noted → Noted
noted_for core kept = noted_in core (entry_for core kept.entry)

-- up to this place the entries and notes are right; there stands another entry or note than this
-- one, which the rules give
pub record IsFirstWrong (roots : List RootStart) (journal : List Noted) (place : ℕ)
    (expected : Noted) : Type 0 where
  pub older : List Noted
  pub kept : Noted
  pub newer : List Noted
  pub whole : journal ≡ older ++ kept ∷ newer
  pub at : place ≡ length older
  pub right : AreRight roots older
  pub answer : expected ≡ noted_for (roots, past_of older) kept
  pub wrong : ¬ (expected ≡ kept)

-- the entries and notes are right; or here is the first place where they aren't
abbrev pub JudgesNoted : List RootStart → List Noted → NotedVerdict → Type 0
JudgesNoted roots journal Valid = AreRight roots journal
JudgesNoted roots journal (Wrong place expected) = IsFirstWrong roots journal place expected

-- the entry that the rules give, with its note, where it or the note is another than the kept one
abbrev pub TellsOtherNoted : Noted → Noted → Option Noted → Type 0
TellsOtherNoted given kept None = given ≡ kept
TellsOtherNoted given kept (Some other) = (other ≡ given) × ¬ (given ≡ kept)
