-- What a script's calls make of a kept journal.
use Rattle.std.specs.Prelude.{◌≡◌, ◌⊎◌, ℕ, List, [], ◌∷◌, ◌++◌, Option}
use Rattle.df_disk.specs.Records.{IsEmpty}
use Rattle.df_image.specs.Image.{KeepsJournal}
use Rattle.df_keep.specs.Script.{ReadsScript}
use Rattle.df_machine.specs.Journal.{State, appended}
use Rattle.df_script_text.specs.declared.line.ScriptLine.{ScriptLine}
use Rattle.df_start.specs.declared.start.RootStart.{RootStart}

-- a start and a journal after these calls, made one after another
abbrev pub followed : State → List ScriptLine → State
followed core [] = core
followed core (line ∷ lines) = followed (appended line.actor line.call core) lines

-- the image is empty, and there is no entry yet; or it keeps just this start and this journal
abbrev pub Begins : List ℕ → State → Type 0
Begins image core = (IsEmpty image × (core.1 ≡ [])) ⊎ KeepsJournal core image

-- where the store was this image, this start and the journal with which it began
abbrev pub BeginsWith : List RootStart → List ℕ → State → Type 0
BeginsWith roots image core = (core.0 ≡ roots) × Begins image core

-- the image keeps what the store began with, and behind it the entries of the first of the calls
abbrev pub KeepsFront : List RootStart → List ScriptLine → List ℕ → List ℕ → Type 0
KeepsFront roots lines image c = (core : State) × (made left : List ScriptLine)
    × BeginsWith roots image core × (lines ≡ made ++ left) × KeepsJournal (followed core made) c

-- what a crash may leave in a run: what it could leave before, nothing where the store was empty,
-- or the entries of the first of the script's calls behind those that were there
abbrev pub MayBeLeft : (List ℕ → Type 0) → Option (List ℕ) → List ℕ → List ℕ → Type 0
MayBeLeft before script image c = before c ⊎ ((IsEmpty image × IsEmpty c)
    ⊎ ((roots : List RootStart) × (lines : List ScriptLine) × ReadsScript script roots lines
    × KeepsFront roots lines image c))
