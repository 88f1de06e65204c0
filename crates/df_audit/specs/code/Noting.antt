-- What comes before a purge and an upgrade: the notes of a right journal, or its first wrong place.
use Rattle.std.specs.Prelude.{◌≡◌, List, reverse}
use Rattle.df_machine.specs.Journal.{firsts}
use Rattle.df_rules.specs.Legal.{Legal}
use Rattle.df_rules.specs.Start.{rows}
use Rattle.df_start.specs.declared.start.RootStart.{RootStart}
use Rattle.df_unit.specs.declared.entry.Entry.{Entry}
use Rattle.df_unit.specs.declared.entry.Noted.{Noted}
use Rattle.df_replay.specs.Noted.{AreRight, noted}
use Rattle.df_check.specs.Check as plain
use Rattle.df_check.specs.CheckNoted as with_notes
use Rattle.df_journal_file.specs.Either.{First, Journal, Second}
use Rattle.df_audit.specs.declared.right.Noting.{Noting}
use Rattle.df_audit.specs.declared.right.Noting.TheVariants as noting

-- the notes of a legal journal in its first version, or its first wrong place
abbrev pub IsNotedOfFirst : List RootStart → List Entry → Noting → Type 0
IsNotedOfFirst roots entries (noting.Noted start notes) = (start ≡ roots)
    × Legal rows (firsts roots) (reverse entries) × (notes.items ≡ noted roots (reverse entries))
IsNotedOfFirst roots entries (noting.Wrong place) =
    (expected : Entry) × plain.IsFirstWrong roots entries place expected

-- the same of one in its second version, which has its notes
abbrev pub IsNotedOfSecond : List RootStart → List Noted → Noting → Type 0
IsNotedOfSecond roots kept (noting.Noted start notes) = (start ≡ roots)
    × AreRight roots kept × (notes.items ≡ kept)
IsNotedOfSecond roots kept (noting.Wrong place) =
    (expected : Noted) × with_notes.IsFirstWrong roots kept place expected

abbrev pub IsNotedOf : Journal → Noting → Type 0
IsNotedOf (First start entries) noting = IsNotedOfFirst start entries noting
IsNotedOf (Second start notes) noting = IsNotedOfSecond start notes noting
