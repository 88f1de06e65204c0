-- What a check says of a journal whose oldest entry stands first.
use Rattle.std.specs.Prelude.{◌≡◌, ℕ, List, ◌∷◌, ◌++◌, Option, Some, None, length, reverse}
use Rattle.df_machine.specs.Journal.{firsts}
use Rattle.df_replay.specs.Replay.{entry_for}
use Rattle.df_rules.specs.Legal.{IsRight, Legal}
use Rattle.df_rules.specs.Start.{rows}
use Rattle.df_start.specs.declared.start.RootStart.{RootStart}
use Rattle.df_unit.specs.declared.entry.Entry.{Entry}
use Rattle.df_check.specs.declared.plain.Verdict.{Verdict}
use Rattle.df_check.specs.declared.plain.Verdict.TheVariants.{Valid, Wrong}

-- up to this place the journal is legal, and the entry there isn't the answer; this one is
pub record IsFirstWrong (roots : List RootStart) (journal : List Entry) (place : ℕ)
    (expected : Entry) : Type 0 where
  pub older : List Entry
  pub kept : Entry
  pub newer : List Entry
  pub whole : journal ≡ older ++ kept ∷ newer
  pub at : place ≡ length older
  pub legal : Legal rows (firsts roots) (reverse older)
  pub wrong : ¬ IsRight rows (firsts roots) (reverse older) kept
  pub answer : expected ≡ entry_for (roots, reverse older) kept

-- the journal is legal; or here is its first entry that isn't the answer, and the answer
abbrev pub Judges : List RootStart → List Entry → Verdict → Type 0
Judges roots journal Valid = Legal rows (firsts roots) (reverse journal)
Judges roots journal (Wrong place expected) = IsFirstWrong roots journal place expected

-- the entry that the rules give, where it is another than the kept one
abbrev pub TellsOther : Entry → Entry → Option Entry → Type 0
TellsOther given kept None = given ≡ kept
TellsOther given kept (Some other) = (other ≡ given) × ¬ (given ≡ kept)
