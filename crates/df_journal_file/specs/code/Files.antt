-- What is read of a whole journal: its first line, its roots and its entries.
use Rattle.std.specs.Prelude.{◌≡◌, ℕ, ◌≤◌, Bool, true, false, List, ◌++◌, length, drop, codes, Option, Some, None, Result, Ok, Err, ⊤, ◌⊎◌}
use Rattle.std.specs.List.{All, flat_map}
use Rattle.df_lines.specs.Lines.{ended}
use Rattle.df_lines.specs.code.Faults.{refusal}
use Rattle.df_lines.specs.code.Stops.{StopsAt}
use Rattle.df_lines.specs.declared.fault.FileFault.{FileFault}
use Rattle.df_lines.specs.declared.fault.FileFault.TheVariants as stop
use Rattle.df_lines.specs.declared.refused.FileRefused.{FileRefused}
use Rattle.df_unit.specs.declared.entry.Noted.{Noted}
use Rattle.df_journal_text.specs.Entry.{noted_text}
use Rattle.df_journal_file.specs.Either.{IsEitherText}
use Rattle.df_journal_file.specs.Journal.{EndsFile, IsNotedText, IsPlainText}
use Rattle.df_journal_file.specs.code.Entries.{IsWholeBy}

-- the first line, in the second version or the first
abbrev pub first_of : Bool → List ℕ
first_of true = codes "defcon-journal 2"
first_of false = codes "defcon-journal 1"

-- this line stands in front of the place
abbrev pub IsFirstAt : List ℕ → List ℕ → ℕ → Type 0
IsFirstAt first bytes place = (place ≤ length bytes) × (bytes ≡ ended first ++ drop place bytes)

-- why the first line is none of these
abbrev pub StopsFirst : (List ℕ → Type 0) → List ℕ → FileFault → Type 0
StopsFirst Is bytes stop.NoMemory = ⊤
StopsFirst Is bytes (stop.Bad place) = (place ≡ 0) × ((bad : List ℕ) × StopsAt Is bytes bad)
StopsFirst Is bytes (stop.TooLarge place) = ⊥

-- the first line of either version
abbrev pub IsEitherFirst : List ℕ → Type 0
IsEitherFirst line = (line ≡ first_of false) ⊎ (line ≡ first_of true)

-- this version is wanted, or either
abbrev pub IsWanted : Option Bool → Bool → Type 0
IsWanted (Some wanted) has = wanted ≡ has
IsWanted None has = ⊤

-- the bytes are a journal in a version that is wanted
abbrev pub IsText : Option Bool → List ℕ → Type 0
IsText (Some true) bytes = IsNotedText bytes
IsText (Some false) bytes = IsPlainText bytes
IsText None bytes = IsEitherText bytes

-- from the place on stand these entries and an end
abbrev pub AreLeft : Bool → List ℕ → ℕ → List Noted → Type 0
AreLeft has bytes at notes = (end : List ℕ) × All (IsWholeBy has) notes × EndsFile end
    × (drop at bytes ≡ flat_map noted_text notes ++ end)

-- what was read, or the refusal of its fault
abbrev pub answered : {X : Type 0} → List ℕ → Result X FileFault → Result X FileRefused
answered bytes (Ok x) = Ok x
answered bytes (Err f) = Err (refusal bytes f)
