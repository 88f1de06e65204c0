-- What is noted with a journal whose oldest entry stands first.
use Rattle.std.specs.Prelude.{◌≡◌, List, [], ◌∷◌, ◌++◌, Option, reverse}
use Rattle.df_label.specs.declared.label.Label.{Label}
use Rattle.df_machine.specs.Journal.{firsts}
use Rattle.df_rules.specs.Legal.{Legal}
use Rattle.df_rules.specs.Start.{rows}
use Rattle.df_start.specs.declared.start.RootStart.{RootStart}
use Rattle.df_unit.specs.declared.entry.Entry.{Entry}
use Rattle.df_unit.specs.declared.entry.Noted.{Noted}
use Rattle.df_replay.specs.Noted.{noted}
use Rattle.df_check.specs.Check.{IsFirstWrong}
use Rattle.df_upgrade.specs.declared.notes.Judged.{Judged}
use Rattle.df_upgrade.specs.declared.notes.Judged.TheVariants.{Right, Wrong}

-- the journal is legal, and these are its notes; or here is its first entry that isn't the answer,
-- and the answer
abbrev pub JudgesAndNotes : List RootStart → List Entry → Judged → Type 0
JudgesAndNotes roots journal (Right notes) = Legal rows (firsts roots) (reverse journal)
    × (notes.items ≡ noted roots (reverse journal))
JudgesAndNotes roots journal (Wrong place expected) = IsFirstWrong roots journal place expected

-- the first of the entries is taken, and noted behind the others with this contamination
abbrev pub MovesFirst : List Entry → List Entry → Option Label → List Noted → List Noted → Type 0
MovesFirst left rest contamination before after = (e : Entry) × (left ≡ e ∷ rest)
    × (after ≡ before ++ record { entry = e; contamination = contamination } ∷ [])
