-- The words of a run, and the script that they name.
use Rattle.std.specs.Prelude.{◌≡◌, ℕ, ◌<◌, ◌≤◌, List, [], ◌∷◌, length, map, Option, None, Some, IfSome}
use Rattle.std.specs.declared.alloc.Global.{Global}
use Rattle.std.specs.declared.string.String.{String}
use Rattle.std.specs.String.{string_bytes}
use Rattle.df_io.specs.Limits.{longest_file}
use Rattle.df_script_text.specs.Script.{IsScript, script_text}
use Rattle.df_script_text.specs.declared.line.ScriptLine.{ScriptLine}
use Rattle.df_start.specs.declared.start.RootStart.{RootStart}

-- the words as their bytes
abbrev pub texts : List (String Global) → List (List ℕ)
texts words = map string_bytes words

-- the words name a script, and a store behind it; no name is empty
abbrev pub NamesScript : List (List ℕ) → List ℕ → Type 0
NamesScript words script = (store : List ℕ) × (words ≡ script ∷ store ∷ [])
    × (0 < length script) × (0 < length store)

-- the words name no script and store
abbrev pub NamesNothing : List (List ℕ) → Type 0
NamesNothing words = (script : List ℕ) → ¬ NamesScript words script

-- the script's name among the words, or none
abbrev pub NamesIn : List (List ℕ) → Option (List ℕ) → Type 0
NamesIn words (Some script) = NamesScript words script
NamesIn words None = NamesNothing words

-- these bytes were read, which are the file's where it is told
abbrev pub WasRead : Option (List ℕ) → List ℕ → Type 0
WasRead told bytes = (length bytes ≤ longest_file) × IfSome told (λ file. bytes ≡ file)

-- the text of a script with this start and these calls was read
abbrev pub ReadsScript : Option (List ℕ) → List RootStart → List ScriptLine → Type 0
ReadsScript told roots lines = IsScript roots lines × WasRead told (script_text roots lines)

-- the file is told to be the script with this start and these calls, and isn't too long
abbrev pub IsToldScript : Option (List ℕ) → List RootStart → List ScriptLine → Type 0
IsToldScript told roots lines = IsScript roots lines × (told ≡ Some (script_text roots lines))
    × (length (script_text roots lines) ≤ longest_file)
